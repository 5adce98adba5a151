-- The theories of a session are within the limits.
use Rattle.std.proofs.Common.{◌≡◌, ◌≤◌, ◌<◌, ◌+◌, ◌-◌, inl, inr, ℕ, Bool, true, false, cond, List, [], ◌∷◌, ◌++◌, length, map, refl, sym, ◌∙◌, ap, subst, arith, Option, Some, None, nat_eq, nat_lt, nat_le}
use Rattle.std.specs.List.{sum_by}
use Rattle.std.proofs.lemmas.List.Sums.{sum_by-cons}
use Rattle.std.proofs.lemmas.Bool.{ltb-true, ltb-false, leb-true}
use Rattle.pure_text.specs.Lists.{IsIn, EachTwo, AreDistinct}
use Rattle.pure_text.proofs.ListLaws.{moved}
use Rattle.pure_graph.specs.Limits.{most_files, most_session_parts, session_parts_bound}
use Rattle.pure_graph.specs.Outcome.{Outcome, Refused, Stands, part_count}
use Rattle.pure_graph.specs.Reading.{Answer, File, IsTried, AreReadFrom, counted, file_parts}
use Rattle.pure_graph.specs.Graph.{IsOutcomeJudged, linked, without, first_absent, imports_of}
use Rattle.pure_graph.specs.Order.{Loaded, file_of}
use Rattle.pure_graph.specs.Session.{Refusal, IsLoadingOf}
use Rattle.pure_graph.specs.declared.outcome.Reason.{Reason}
use Rattle.pure_graph.specs.declared.outcome.Reason.TheVariants.{TooLarge}
use Rattle.pure_graph.proofs.LimitLemmas.{session-parts-bounded}
use Rattle.pure_session_laws.specs.Limits.{first_parts, LoadedWithinLimits}
use Rattle.pure_session_laws.proofs.StoodLaws.{taken-stands}
use Rattle.pure_session_laws.proofs.OrderLaws.{names-distinct}

-- the sum of what each file weighs
abbrev total : (Outcome → ℕ) → List File → ℕ
total w [] = 0
total w (f ∷ files) = w f.outcome + total w files

-- a file that stands counts for one
abbrev one_each : Outcome → ℕ
one_each (Refused reason) = 0
one_each (Stands source text) = 1

-- ---- the files that are read

one_at_most : (o : Outcome) → one_each o ≤ 1
one_at_most (Refused reason) = omega arith
one_at_most (Stands source text) = omega arith

few-read : (place n : ℕ) (answers : List Answer) (files : List File) → AreReadFrom place n answers files → total one_each files ≤ most_files - place
few-read place n [] [] read = omega arith
few-read place n [] (f ∷ files) read = absurd read
few-read place n (a ∷ answers) [] read = absurd read
few-read place n (a ∷ answers) (f ∷ files) (own, tried, made, rest) =
    let more = few-read (place + 1) (n + file_parts (counted n own)) answers files rest in
    by (nat_lt place most_files) refl tried more
  where
    by : (b : Bool) → nat_lt place most_files ≡ b → IsTried b a own → total one_each files ≤ most_files - (place + 1) → one_each f.outcome + total one_each files ≤ most_files - place
    by true h t more =
        let below : place < most_files = ltb-true place most_files h in
        let single = one_at_most f.outcome in
        omega arith
    by false h t more =
        let past : most_files ≤ place = ltb-false place most_files h in
        let nothing : one_each f.outcome ≡ 0 = ap (λ (g : File). one_each g.outcome) made ∙ ap (λ o. one_each (counted n o)) t in
        omega arith

fits-parts : (n : ℕ) (o : Outcome) → n ≤ session_parts_bound → n + file_parts (counted n o) ≤ session_parts_bound
fits-parts n (Refused reason) h = omega (arith, h)
fits-parts n (Stands source text) h = by (nat_le (n + part_count text.commands) (most_session_parts text.version)) refl
  where
    by : (b : Bool) → nat_le (n + part_count text.commands) (most_session_parts text.version) ≡ b → n + file_parts (cond b (Stands source text) (Refused TooLarge)) ≤ session_parts_bound
    by true e = within (leb-true (n + part_count text.commands) (most_session_parts text.version) e) (session-parts-bounded text.version)
      where
        within : {sum most bound : ℕ} → sum ≤ most → most ≤ bound → sum ≤ bound
        within a b = omega (arith, a, b)
    by false e = omega (arith, h)

parts-read : (place n : ℕ) (answers : List Answer) (files : List File) → n ≤ session_parts_bound → AreReadFrom place n answers files → n + total file_parts files ≤ session_parts_bound
parts-read place n [] [] h read = omega (arith, h)
parts-read place n [] (f ∷ files) h read = absurd read
parts-read place n (a ∷ answers) [] h read = absurd read
parts-read place n (a ∷ answers) (f ∷ files) h (own, tried, made, rest) =
    let more = parts-read (place + 1) (n + file_parts (counted n own)) answers files (fits-parts n own h) rest in
    let same : file_parts f.outcome ≡ file_parts (counted n own) = ap (λ (g : File). file_parts g.outcome) made in
    omega arith

-- the parts of a file of version 1
abbrev first_of : Outcome → ℕ
first_of (Refused reason) = 0
first_of (Stands source text) = first_parts text

-- A file of version 1 that fits leaves the parts of version 1 so far within the limit, since all before it count.
fits-first : (n m : ℕ) (o : Outcome) → m ≤ n → m ≤ most_session_parts 1
    → (m + first_of (counted n o) ≤ n + file_parts (counted n o)) × (m + first_of (counted n o) ≤ most_session_parts 1)
fits-first n m (Refused reason) below few = (omega (arith, below), omega (arith, few))
fits-first n m (Stands source text) below few = by (nat_le (n + part_count text.commands) (most_session_parts text.version)) refl
  where
    by : (b : Bool) → nat_le (n + part_count text.commands) (most_session_parts text.version) ≡ b
        → (m + first_of (cond b (Stands source text) (Refused TooLarge)) ≤ n + file_parts (cond b (Stands source text) (Refused TooLarge)))
        × (m + first_of (cond b (Stands source text) (Refused TooLarge)) ≤ most_session_parts 1)
    by true e = of_version (nat_eq text.version 1) (leb-true (n + part_count text.commands) (most_session_parts text.version) e)
      where
        of_version : (one : Bool) → n + part_count text.commands ≤ cond one 4096 8192
            → (m + cond one (part_count text.commands) 0 ≤ n + part_count text.commands) × (m + cond one (part_count text.commands) 0 ≤ most_session_parts 1)
        of_version true room = (omega (arith, below), omega (arith, below, room))
        of_version false room = (omega (arith, below), omega (arith, few))
    by false e = (omega (arith, below), omega (arith, few))

first-read : (place n m : ℕ) (answers : List Answer) (files : List File) → m ≤ n → m ≤ most_session_parts 1 → AreReadFrom place n answers files → m + total first_of files ≤ most_session_parts 1
first-read place n m [] [] below few read = omega (arith, few)
first-read place n m [] (f ∷ files) below few read = absurd read
first-read place n m (a ∷ answers) [] below few read = absurd read
first-read place n m (a ∷ answers) (f ∷ files) below few (own, tried, made, rest) =
    let here = fits-first n m own below few in
    let more = first-read (place + 1) (n + file_parts (counted n own)) (m + first_of (counted n own)) answers files here.0 here.1 rest in
    let same : first_of f.outcome ≡ first_of (counted n own) = ap (λ (g : File). first_of g.outcome) made in
    omega (arith, more, same)

-- ---- the files that are left

-- a refused file weighs nothing
record IsLight (w : Outcome → ℕ) : Type 0 where
  pub nothing : (reason : Reason) → w (Refused reason) ≡ 0

linked-lighter : (w : Outcome → ℕ) → IsLight w → (o : Outcome) (absent : Option (List ℕ)) → w (without absent o) ≤ w o
linked-lighter w light o None = omega arith
linked-lighter w light o (Some p) = rw (light.nothing _) (omega arith)

linked-total : (w : Outcome → ℕ) → IsLight w → (listed : List (List ℕ)) (files : List File) → total w (map (linked listed) files) ≤ total w files
linked-total w light listed [] = omega arith
linked-total w light listed (f ∷ files) =
    let here = linked-lighter w light f.outcome (first_absent listed (imports_of f.outcome)) in
    let more = linked-total w light listed files in
    omega (arith, here, more)

lighter-by : (w : Outcome → ℕ) → IsLight w → (o p : Outcome) (reason : Reason) → p ≡ Refused reason → w p ≤ w o
lighter-by w light o p reason e = rw (e, light.nothing reason) (omega arith)

judged-lighter : (w : Outcome → ℕ) → IsLight w → (files : List File) (t : List ℕ) (o p : Outcome) → IsOutcomeJudged files t o p → w p ≤ w o
judged-lighter w light files t (Refused reason) p h = lighter-by w light (Refused reason) p reason h
judged-lighter w light files t (Stands s x) p (inl (c, e)) = lighter-by w light (Stands s x) p _ e
judged-lighter w light files t (Stands s x) p (inr (n, inl (q, f, e))) = lighter-by w light (Stands s x) p _ e
judged-lighter w light files t (Stands s x) p (inr (n, inr (k, e))) = rw e (omega arith)

judged-total : (w : Outcome → ℕ) → IsLight w → (all files judged : List File) → EachTwo (λ f j. (j.theory ≡ f.theory) × IsOutcomeJudged all f.theory f.outcome j.outcome) files judged → total w judged ≤ total w files
judged-total w light all [] [] h = omega arith
judged-total w light all [] (j ∷ judged) h = absurd h
judged-total w light all (f ∷ files) [] h = absurd h
judged-total w light all (f ∷ files) (j ∷ judged) h =
    let here = judged-lighter w light all f.theory f.outcome j.outcome h.0.1 in
    let more = judged-total w light all files judged h.1 in
    omega (arith, here, more)

-- ---- the theories that are loaded

-- the list in two parts, with an element between them
record IsBetween {A : Type 0} (x : A) (xs : List A) : Type 0 where
  pub front : List A
  pub back : List A
  pub parts : xs ≡ front ++ x ∷ back

between : {A : Type 0} (x : A) (xs : List A) → IsIn x xs → IsBetween x xs
between x [] m = absurd m
between x (y ∷ ys) (inl e) = record { front = []; back = ys; parts = ap (λ z. z ∷ ys) (sym e) }
between x (y ∷ ys) (inr m) = let w = between x ys m in record { front = y ∷ w.front; back = w.back; parts = ap (λ zs. y ∷ zs) w.parts }

total-between : (w : Outcome → ℕ) (front back : List File) (f : File) → total w (front ++ f ∷ back) ≡ w f.outcome + total w (front ++ back)
total-between w [] back f = refl
total-between w (g ∷ front) back f = let more = total-between w front back f in omega (arith, more)

abbrev outcome_of : Loaded → Outcome
outcome_of l = Stands l.source l.text

-- theories of distinct names that have files among others weigh no more than these
sum-within : (w : Outcome → ℕ) (loaded : List Loaded) (files : List File) → AreDistinct (map (λ (l : Loaded). l.name) loaded) → ((l : Loaded) → IsIn l loaded → IsIn (file_of l.name l.source l.text) files)
    → sum_by (λ l. w (outcome_of l)) loaded ≤ total w files
sum-within w [] files d has = omega arith
sum-within w (l ∷ loaded) files d has =
    let f : File = file_of l.name l.source l.text in
    let b = between f files (has l (inl refl)) in
    let more = sum-within w loaded (b.front ++ b.back) d.1 (λ k m. other k m (b.front ++ b.back) (moved f b.front b.back (file_of k.name k.source k.text) (subst (IsIn (file_of k.name k.source k.text)) b.parts (has k (inr m))))) in
    let whole : total w files ≡ w (outcome_of l) + total w (b.front ++ b.back) = ap (total w) b.parts ∙ total-between w b.front b.back f in
    let sum = sum_by-cons (λ (l : Loaded). w (outcome_of l)) l loaded in
    omega (arith, more, whole, sum)
  where
    in-names : (k : Loaded) (ls : List Loaded) → IsIn k ls → IsIn k.name (map (λ (l : Loaded). l.name) ls)
    in-names k [] m = m
    in-names k (x ∷ ls) (inl e) = inl (ap (λ (y : Loaded). y.name) e)
    in-names k (x ∷ ls) (inr m) = inr (in-names k ls m)

    other : (k : Loaded) → IsIn k loaded → (rest : List File) → IsIn (file_of k.name k.source k.text) (file_of l.name l.source l.text ∷ rest) → IsIn (file_of k.name k.source k.text) rest
    other k m rest (inl e) = absurd (d.0 (subst (λ n. IsIn n (map (λ (l : Loaded). l.name) loaded)) (ap (λ (f : File). f.theory) e) (in-names k loaded m)))
    other k m rest (inr n) = n

loaded-weigh : (w : Outcome → ℕ) → IsLight w → (answers : List Answer) (theories : List Loaded) (refused : List Refusal) (n : ℕ) → (of : IsLoadingOf answers theories refused n)
    → sum_by (λ l. w (outcome_of l)) theories ≤ total w of.read
loaded-weigh w light answers theories refused n of =
    let listed : List (List ℕ) = map (λ (a : Answer). a.theory) answers in
    let all : List File = map (linked listed) of.read in
    let first = sum-within w theories of.judged (names-distinct of.judged [] theories of.loaded) (taken-stands of.judged [] theories of.loaded) in
    let second = judged-total w light all all of.judged of.are_judged in
    let third = linked-total w light listed of.read in
    omega (arith, first, second, third)

as-many : (loaded : List Loaded) → sum_by (λ (l : Loaded). 1) loaded ≡ length loaded
as-many [] = refl
as-many (l ∷ loaded) = let more = as-many loaded in let sum = sum_by-cons (λ (l : Loaded). 1) l loaded in omega (arith, more, sum)

pub loaded-within_limits : LoadedWithinLimits
loaded-within_limits answers theories refused n of =
    let ones = loaded-weigh one_each (record { nothing = λ r. refl }) answers theories refused n of in
    let parts = loaded-weigh file_parts (record { nothing = λ r. refl }) answers theories refused n of in
    let firsts = loaded-weigh first_of (record { nothing = λ r. refl }) answers theories refused n of in
    let files = few-read 0 0 answers of.read of.are_read in
    let read = parts-read 0 0 answers of.read (omega arith) of.are_read in
    let first = first-read 0 0 0 answers of.read (omega arith) (omega arith) of.are_read in
    let size = as-many theories in
    record { few = omega (arith, ones, files, size); few_parts = omega (arith, parts, read); few_first = omega (arith, firsts, first) }
