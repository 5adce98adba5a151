-- Lines replayed one after the other.
use Rattle.std.proofs.Common.{◌≡◌, ◌≢◌, ◌∙◌, ℕ, ◌+◌, ◌≤◌, ◌<◌, suc, List, [], ◌∷◌, ◌++◌, map, take, drop, length, get_or, refl, sym, ap, subst, inl, arith, take_all}
use Rattle.std.specs.Prelude.{Result, Ok, Err, IfOk}
use Rattle.pure_text.specs.Lists.{IsIn, Each}
use Rattle.pure_text.proofs.ListLaws.{split_at, each_at, in-append_left, in-append_right}
use Rattle.pure_text.proofs.LoopLaws.{longer_by}
use Rattle.pure_definitions.specs.Terms.Term.{Term}
use Rattle.pure_definitions.specs.Terms.Bounds.{IsClosed}
use Rattle.pure_definitions.specs.Terms.Limits.{cut_off}
use Rattle.pure_definitions.specs.Declarations.Decl.{Decl}
use Rattle.pure_logic.specs.Content.{Content, IsContent, IsBelow}
use Rattle.pure_logic.specs.PureContent.{pure_content, pure_declarations}
use Rattle.pure_logic.specs.Derivable.{IsDerivableAlone}
use Rattle.pure_record.specs.Items.{Item}
use Rattle.pure_record.specs.Lines.{Node}
use Rattle.pure_record.specs.declared.record.Node as program
use Rattle.pure_record.specs.Seen.{seen_node, seen_lines}
use Rattle.pure_replay.specs.Conclusion.{Conclusion}
use Rattle.pure_replay.specs.Step.{plain_content}
use Rattle.pure_replay.specs.Contents.{declared_by, content_of, AreGoodItems}
use Rattle.pure_replay.specs.Added.{AreDeclared}
use Rattle.pure_replay.specs.Lines.{Line, AreLines, none, more, lines_size, conclusion_size, most_size}
use Rattle.pure_replay.specs.Inferred.{conclusions_of, Infers}
use Rattle.pure_replay.specs.Replayed.{IsStopped, IsWrong, IsTooBig, HasLast, IsConcluded, IsReplayed}
use Rattle.pure_replay.specs.Table.{HasRoom, IsPushed, IsStepFault, IsLineFault, IsTable, IsLast}
use Rattle.pure_replay.specs.declared.fault.ReplayFault.{ReplayFault}
use Rattle.pure_replay.specs.declared.fault.ReplayFault.TheVariants as fault
use Rattle.pure_replay.proofs.LineLaws.{IsSound, gives-line, line-gives, sound_lines, closed_lines, sound-derivable}
use Rattle.pure_replay.proofs.ItemLaws.{good_all, take-long}

conclusions-snoc : (ls : List Line) (l : Line) → conclusions_of (ls ++ l ∷ []) ≡ conclusions_of ls ++ l.conclusion ∷ []
conclusions-snoc [] l = refl
conclusions-snoc (k ∷ ks) l = ap (λ cs. k.conclusion ∷ cs) (conclusions-snoc ks l)

size-snoc : (ls : List Line) (l : Line) → lines_size (ls ++ l ∷ []) ≡ lines_size ls + conclusion_size l.conclusion
size-snoc [] l = sum_none (conclusion_size l.conclusion)
  where
    sum_none : (n : ℕ) → n + 0 ≡ 0 + n
    sum_none n = omega arith
size-snoc (k ∷ ks) l = one_more (conclusion_size k.conclusion) (lines_size (ks ++ l ∷ [])) (lines_size ks) (conclusion_size l.conclusion) (size-snoc ks l)
  where
    one_more : (a b c d : ℕ) → b ≡ c + d → a + b ≡ (a + c) + d
    one_more a b c d e = omega (arith, e)

lines-snoc : (xs : List program.Node) (x : program.Node) → seen_lines (xs ++ x ∷ []) ≡ seen_lines xs ++ seen_node x ∷ []
lines-snoc [] x = refl
lines-snoc (y ∷ ys) x = ap (λ zs. seen_node y ∷ zs) (lines-snoc ys x)

lines-both : (xs ys : List program.Node) → seen_lines (xs ++ ys) ≡ seen_lines xs ++ seen_lines ys
lines-both [] ys = refl
lines-both (x ∷ xs) ys = ap (λ zs. seen_node x ∷ zs) (lines-both xs ys)

lines-long : (xs : List program.Node) → length (seen_lines xs) ≡ length xs
lines-long [] = refl
lines-long (x ∷ xs) = ap suc (lines-long xs)

pub table-none : (Q : Content) → IsTable Q [] [] most_size
table-none Q = record { lines = []; are = none; is = refl; room = refl }

pub table-closed : (Q : Content) → IsContent Q → IsBelow pure_content Q → (nodes : List Node) (cs : List Conclusion) (left : ℕ) → IsTable Q nodes cs left → Each (λ c. IsClosed c.prop) cs
table-closed Q q above nodes cs left t = subst (Each (λ c. IsClosed c.prop)) (sym t.is) (closed_lines Q q above t.lines (sound_lines Q nodes t.lines t.are))

pub table-room : (Q : Content) (nodes : List Node) (cs : List Conclusion) (left : ℕ) → IsTable Q nodes cs left → left ≤ most_size
table-room Q nodes cs left t = least left (lines_size t.lines) most_size t.room
  where
    least : (a b n : ℕ) → a + b ≡ n → a ≤ n
    least a b n e = omega (arith, e)

module _ (Q : Content) (q : IsContent Q) (nodes : List program.Node) (i : ℕ) (r : program.Node) (within : i < length nodes) (read : r ≡ get_or nodes i r) (old : List Conclusion) (left : ℕ)
    (t : IsTable Q (seen_lines (take i nodes)) old left) where
  abbrev front : List Node
  front = seen_lines (take i nodes)

  sound : Each (IsSound Q) t.lines
  sound = sound_lines Q front t.lines t.are

  pub table-turn : (new : List Conclusion) (rest : ℕ) → (c : Conclusion) × Infers Q old (seen_node r) c × IsPushed old left new rest c → IsTable Q (seen_lines (take (i + 1) nodes)) new rest
  table-turn new rest (c, infers, pushed) =
      let given = gives-line Q t.lines sound (seen_node r) c (subst (λ cs. Infers Q cs (seen_node r) c) t.is infers) in
      let line : Line = record { tree = given.0; conclusion = c } in
      record {
        lines = t.lines ++ line ∷ [];
        are = more (seen_node r) line t.are given.1 (record { within = pushed.room.within; sum = sum_within left (lines_size t.lines) most_size (conclusion_size c) t.room pushed.room.sum })
            (ap seen_lines (longer_by nodes i r within read) ∙ lines-snoc (take i nodes) r) refl;
        is = pushed.is ∙ (ap (λ cs. cs ++ c ∷ []) t.is ∙ sym (conclusions-snoc t.lines line));
        room = ap (λ n. rest + n) (size-snoc t.lines line) ∙ room_left rest (lines_size t.lines) (conclusion_size c) left most_size pushed.left_is t.room;
      }
    where
      sum_within : (a b n d : ℕ) → a + b ≡ n → d ≤ a → b + d ≤ n
      sum_within a b n d e h = omega (arith, e, h)

      room_left : (rest b d a n : ℕ) → rest + d ≡ a → a + b ≡ n → rest + (b + d) ≡ n
      room_left rest b d a n e f = omega (arith, e, f)

  stopped : (property : List Line → Node → Type 0) (k : ℕ) → k ≡ cut_off i → property t.lines (seen_node r) → IsStopped Q (seen_lines nodes) k property
  stopped property k place has = record {
    front = front;
    node = seen_node r;
    rest = seen_lines (drop (i + 1) nodes);
    earlier = t.lines;
    is = ap seen_lines (split_at nodes i r within read) ∙ lines-both (take i nodes) (r ∷ drop (i + 1) nodes);
    place_is = place ∙ ap cut_off (sym (lines-long (take i nodes) ∙ take-long nodes i within));
    before = t.are;
    has = has;
  }

  wrong : ((c : Conclusion) → ¬ Infers Q old (seen_node r) c) → IsWrong Q t.lines (seen_node r)
  wrong h d A g = let given = line-gives Q t.lines sound q (seen_node r) d A g in h given.0 (subst (λ cs. Infers Q cs (seen_node r) given.0) (sym t.is) given.1)

  too_big : (c : Conclusion) × Infers Q old (seen_node r) c × (¬ HasRoom left c) → IsTooBig Q t.lines (seen_node r)
  too_big (c, infers, no_room) =
      let given = gives-line Q t.lines sound (seen_node r) c (subst (λ cs. Infers Q cs (seen_node r) c) t.is infers) in
      (record { tree = given.0; conclusion = c }, given.1, λ fits. no_room (record { within = fits.within; sum = room_for left (lines_size t.lines) (conclusion_size c) most_size t.room fits.sum }))
    where
      room_for : (a b d n : ℕ) → a + b ≡ n → b + d ≤ n → d ≤ a
      room_for a b d n e h = omega (arith, e, h)

  pub table-stop : (f : ReplayFault) → IsStepFault Q (seen_node r) i old left f → IsLineFault Q (seen_lines nodes) f
  table-stop (fault.Content k) h = absurd h
  table-stop (fault.Line k) h = stopped (IsWrong Q) k h.0 (wrong h.1)
  table-stop (fault.Big k) h = stopped (IsTooBig Q) k h.0 (too_big h.1)
  table-stop fault.Open h = absurd h
  table-stop fault.Empty h = absurd h
  table-stop fault.Memory h = tt

pub table-all : (Q : Content) (nodes : List program.Node) (i : ℕ) (cs : List Conclusion) (left : ℕ) → length nodes ≤ i → IsTable Q (seen_lines (take i nodes)) cs left → (lines : List Line) × AreLines Q (seen_lines nodes) lines × (cs ≡ conclusions_of lines)
table-all Q nodes i cs left end t = (t.lines, subst (λ ns. AreLines Q (seen_lines ns) t.lines) (take_all i nodes end) t.are, t.is)

-- The last of what lines conclude is what the last line does.
last-line : (ls : List Line) (front : List Conclusion) (c : Conclusion) → conclusions_of ls ≡ front ++ c ∷ [] → (earlier : List Line) × (l : Line) × (ls ≡ earlier ++ l ∷ []) × (l.conclusion ≡ c)
last-line [] [] c e = absurd (cc)
last-line [] (d ∷ ds) c e = absurd (cc)
last-line (l ∷ []) [] c e = let same : l.conclusion ≡ c = cc in ([], l, refl, same)
last-line (l ∷ k ∷ ks) [] c e = absurd (cc)
last-line (l ∷ ls) (d ∷ ds) c e =
    let rest : conclusions_of ls ≡ ds ++ c ∷ [] = cc in
    let found = last-line ls ds c rest in
    (l ∷ found.0, found.1, ap (λ ks. l ∷ ks) found.2, found.3)

none-of : (ls : List Line) → conclusions_of ls ≡ [] → ls ≡ []
none-of [] e = refl
none-of (l ∷ ls) e = absurd (cc)

no_nodes : (Q : Content) (nodes : List Node) (lines : List Line) → AreLines Q nodes lines → lines ≡ [] → nodes ≡ []
no_nodes Q nodes ls none e = refl
no_nodes Q nodes ls (more {lines} node l h is fits nodes_are lines_are) e = absurd (some lines l (sym lines_are ∙ e))
  where
    some : (xs : List Line) (x : Line) → xs ++ x ∷ [] ≡ [] → ⊥
    some [] x e = cc
    some (y ∷ ys) x e = cc

module _ (Q : Content) (nodes : List Node) (cs : List Conclusion) (lines : List Line) (are : AreLines Q nodes lines) (same : cs ≡ conclusions_of lines) where
  has_last : (property : Line → Type 0) (on : Conclusion → Type 0) → ((l : Line) → on l.conclusion → property l) → (front : List Conclusion) (c : Conclusion) → cs ≡ front ++ c ∷ [] → on c → HasLast Q nodes property
  has_last property on to front c e h =
      let found = last-line lines front c (sym same ∙ e) in
      record { earlier = found.0; last = found.1; are = subst (AreLines Q nodes) found.2 are; has = to found.1 (subst on (sym found.3) h) }

  pub concluded-last : (result : Result Term ReplayFault) → IsLast cs result → IsConcluded Q nodes result
  concluded-last (Ok A) (front, c, e, none_left, prop_is) =
      has_last (λ l. (l.conclusion.hyps ≡ []) × (A ≡ l.conclusion.prop)) (λ c. (c.hyps ≡ []) × (A ≡ c.prop)) (λ l h. h) front c e (none_left, prop_is)
  concluded-last (Err (fault.Content k)) h = absurd h
  concluded-last (Err (fault.Line k)) h = absurd h
  concluded-last (Err (fault.Big k)) h = absurd h
  concluded-last (Err fault.Open) (front, c, e, some_left) = has_last (λ l. l.conclusion.hyps ≢ []) (λ c. c.hyps ≢ []) (λ l h. h) front c e some_left
  concluded-last (Err fault.Empty) h = no_nodes Q nodes lines are (none-of lines (sym same ∙ h))
  concluded-last (Err fault.Memory) h = tt

pub concluded-fault : (Q : Content) (nodes : List Node) (f : ReplayFault) → IsLineFault Q nodes f → IsConcluded Q nodes (Err f)
concluded-fault Q nodes (fault.Content k) h = h
concluded-fault Q nodes (fault.Line k) h = h
concluded-fault Q nodes (fault.Big k) h = h
concluded-fault Q nodes fault.Open h = absurd h
concluded-fault Q nodes fault.Empty h = absurd h
concluded-fault Q nodes fault.Memory h = tt

-- What a record is replayed to is derivable from its axioms alone.
pub replayed-derivable : (items : List Item) (nodes : List Node) (A : Term) → IsReplayed items nodes (Ok A) → IsDerivableAlone (content_of items) A
replayed-derivable items nodes A (good, last) =
    let sound = sound_lines (content_of items) nodes (last.earlier ++ last.last ∷ []) last.are in
    let own = each_at (IsSound (content_of items)) (last.earlier ++ last.last ∷ []) sound last.last (in-append_right last.last last.earlier (last.last ∷ []) (inl refl)) in
    subst (IsDerivableAlone (content_of items)) (sym last.has.1) (sound-derivable (content_of items) last.last own last.has.0)

-- A fault of the items, or of the lines, is one of the record.
pub items-fault : (items : List Item) (nodes : List Node) (f : ReplayFault) → AreDeclared items (Err f) → IsReplayed items nodes (Err f)
items-fault items nodes (fault.Content k) h = h
items-fault items nodes (fault.Line k) h = absurd h
items-fault items nodes (fault.Big k) h = absurd h
items-fault items nodes fault.Open h = absurd h
items-fault items nodes fault.Empty h = absurd h
items-fault items nodes fault.Memory h = tt

pub replayed-over : (items : List Item) (nodes : List Node) → AreGoodItems items → (ds : List Decl) → ds ≡ (content_of items).declarations → (result : Result Term ReplayFault) → IsConcluded (plain_content ds) nodes result → IsReplayed items nodes result
replayed-over items nodes good ds is (Ok A) h = (good, subst (λ ds. IsConcluded (plain_content ds) nodes (Ok A)) is h)
replayed-over items nodes good ds is (Err (fault.Content k)) h = absurd h
replayed-over items nodes good ds is (Err (fault.Line k)) h = (good, subst (λ ds. IsConcluded (plain_content ds) nodes (Err (fault.Line k))) is h)
replayed-over items nodes good ds is (Err (fault.Big k)) h = (good, subst (λ ds. IsConcluded (plain_content ds) nodes (Err (fault.Big k))) is h)
replayed-over items nodes good ds is (Err fault.Open) h = (good, subst (λ ds. IsConcluded (plain_content ds) nodes (Err fault.Open)) is h)
replayed-over items nodes good ds is (Err fault.Empty) h = (good, h)
replayed-over items nodes good ds is (Err fault.Memory) h = tt

pub derivable-answer : (items : List Item) (nodes : List Node) (result : Result Term ReplayFault) → IsReplayed items nodes result → IfOk result (IsDerivableAlone (content_of items))
derivable-answer items nodes (Ok A) h = replayed-derivable items nodes A h
derivable-answer items nodes (Err f) h = tt

-- The content of good items is one, and Pure's is below it.
pub content_of_good : (items : List Item) → AreGoodItems items → (ds : List Decl) → ds ≡ (content_of items).declarations → IsContent (plain_content ds)
content_of_good items good ds is = subst (λ ds. IsContent (plain_content ds)) (sym is) (good_all items good).content

pub pure_below : (items : List Item) (ds : List Decl) → ds ≡ (content_of items).declarations → IsBelow pure_content (plain_content ds)
pure_below items ds is d m = subst (IsIn d) (sym is) (in-append_left d pure_declarations (map declared_by items) m)
