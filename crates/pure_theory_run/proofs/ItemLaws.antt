-- What stands at places of lists.
use Rattle.std.proofs.Common.{◌≡◌, ◌∙◌, ℕ, ◌+◌, ◌-◌, ◌<◌, ◌≤◌, List, length, get_or, take, take_all, refl, ap, sym, arith}
use Rattle.std.specs.Prelude.{Result, Ok, Err, IfOk, Some, None, slice_get}
use Rattle.std.specs.Option.{option_map}
use Rattle.std.specs.declared.alloc.Global.{Global}
use Rattle.std.specs.declared.sync.Arc.{Arc}
use Rattle.std.specs.declared.alloc.AllocError.{AllocError}
use Rattle.std.specs.List.{sum_by}
use Rattle.std.proofs.lemmas.List.{length-map}
use Rattle.std.proofs.lemmas.List.Sums.{sum_by-take-le}
use Rattle.std.proofs.lemmas.Option.{slice_get-map, slice_get_read, slice_get_past}
use Rattle.pure_script.specs.declared.theory.Command as code
use Rattle.pure_script.specs.Seen.{seen_command, seen_commands}
use Rattle.pure_graph.specs.Outcome.{part_count}
use Rattle.pure_graph.proofs.HeaderLemmas.{parts_of, count-turn, count-end}
use Rattle.pure_theory_run.specs.Parents.{IsLeftBy}
use Rattle.pure_theory_run.specs.Outline.{Outline, outlines}

-- The value at a place.
pub outline-at : (ps : List (Arc Outline Global)) (i : ℕ) (p : Arc Outline Global) → i < length ps → p ≡ get_or ps i p → slice_get (outlines ps) i ≡ Some p.value
outline-at ps i p within read = slice_get-map (λ (q : Arc Outline Global). q.value) ps i ∙ ap (option_map (λ (q : Arc Outline Global). q.value)) (slice_get_read ps (length ps) i p refl within read)

-- What a theory left, where it is found.
pub left-found : (ps : List (Arc Outline Global)) (index : ℕ) (p : Arc Outline Global) (r : Result (Arc Outline Global) AllocError) → 1 ≤ index → index - 1 < length ps → p ≡ get_or ps (index - 1) p
    → IfOk r (λ v. v.value ≡ p.value) → IfOk r (λ v. IsLeftBy (outlines ps) index v.value)
left-found ps index p (Ok v) some within read h = record { place = index - 1; index_is = omega (arith, some); held = outline-at ps (index - 1) p within read ∙ ap (λ (o : Outline). Some o) (sym h) }
left-found ps index p (Err e) some within read h = h

-- The place behind which so many commands are left.
pub left-here : (items : List code.Command) (left : ℕ) → left ≤ length (seen_commands items) → left ≤ length items
left-here items left within = omega (arith, within, length-map items seen_command)

pub place-here : (items : List code.Command) (n left : ℕ) → n ≡ length items - left → n ≡ length (seen_commands items) - left
place-here items n left is = omega (arith, is, length-map items seen_command)

-- The count behind a command is within that of all.
pub count-within : (cs : List code.Command) (c : code.Command) (i count parts : ℕ) → i < length cs → c ≡ get_or cs i c → count ≡ sum_by parts_of (take i cs) → parts ≡ parts_of c → count + parts ≤ part_count (seen_commands cs)
count-within cs c i count parts within read so_far own =
    let all : sum_by parts_of (take (length cs) cs) ≡ part_count (seen_commands cs) = count-end cs (length cs) (sum_by parts_of (take (length cs) cs)) (omega arith) refl in
    let whole : sum_by parts_of (take (length cs) cs) ≡ sum_by parts_of cs = ap (sum_by parts_of) (take_all (length cs) cs (omega arith)) in
    omega (arith, count-turn cs c i count parts within read so_far own, sum_by-take-le parts_of cs (i + 1), all, whole)

-- The command at a place, and the end of the commands.
pub command-here : (cs items : List code.Command) (n m : ℕ) (x : code.Command) → cs ≡ items → n ≡ m → n < length cs → x ≡ get_or cs n x → slice_get (seen_commands items) m ≡ Some (seen_command x)
command-here cs items n m x same count within read =
    rw (← same, ← count) (slice_get-map seen_command cs n ∙ ap (option_map seen_command) (slice_get_read cs (length cs) n x refl within read))

pub no-command : (cs items : List code.Command) (n m : ℕ) → cs ≡ items → n ≡ m → length cs ≤ n → slice_get (seen_commands items) m ≡ None
no-command cs items n m same count past = rw (← same, ← count) (slice_get-map seen_command cs n ∙ ap (option_map seen_command) (slice_get_past cs n past))
