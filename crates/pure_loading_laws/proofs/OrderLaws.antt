-- An order of loading: there is one of files whose imports stand and have lower ranks.
use Rattle.std.proofs.Common.{◌≡◌, ◌⊎◌, ◌∙◌, inl, inr, ℕ, zero, suc, ◌<◌, ◌≤◌, Bool, true, false, List, [], ◌∷◌, ◌++◌, length, map, refl, sym, ap, subst, arith, true≢false, length-append, Ordering}
use Rattle.std.specs.declared.cmp.Ordering.TheVariants.{Less, Equal, Greater}
use Rattle.std.specs.List.{list_any}
use Rattle.std.specs.Ordering.{ordering_reverse}
use Rattle.std.specs.Cmp.Lexicographic.{nat_list_cmp_total}
use Rattle.pure_text.specs.Lists.{IsIn, Each}
use Rattle.pure_text.proofs.ListLaws.{each_of, each_at, each_imply, each_decided, in-append_left, in-append_right, moved, moved_back}
use Rattle.pure_text.proofs.AscendingTexts.{byte_order, equal_texts}
use Rattle.pure_grammar.specs.Theories.Lexeme.{same}
use Rattle.pure_grammar.specs.Theories.TheoryText.{TheoryText}
use Rattle.pure_graph.specs.Outcome.{Outcome, Refused, Stands}
use Rattle.pure_graph.specs.Reading.{File}
use Rattle.pure_graph.specs.Graph.{Imports, named_imports}
use Rattle.pure_graph.specs.Order.{Loaded, file_of, IsReady, index_among, AreTakenBehind, AreInLoadOrder}
use Rattle.pure_graph.specs.declared.outcome.Reason.{Reason}
use Rattle.pure_graph.proofs.Ascending.{among-in, in-among}
use Rattle.pure_session.specs.ImportGraph.{AreGrounded}

-- ---- which files are free to be taken
pub text_decided : (t : List ℕ) (ts : List (List ℕ)) → IsIn t ts ⊎ ¬ IsIn t ts
text_decided t ts = by (list_any (same t) ts) refl
  where
    by : (b : Bool) → list_any (same t) ts ≡ b → IsIn t ts ⊎ ¬ IsIn t ts
    by true e = inl (in-among t ts e)
    by false e = inr (λ m. true≢false (sym (among-in t ts m) ∙ e))

-- the file stands, isn't taken yet, and its imports are
abbrev IsFree : List (List ℕ) → File → Type 0
IsFree taken f = (source : List ℕ) × (text : TheoryText) × (f.outcome ≡ Stands source text) × (¬ IsIn f.theory taken) × Each (λ p. IsIn p taken) (named_imports text)

refused-stands : (r : Reason) (source : List ℕ) (text : TheoryText) → Refused r ≡ Stands source text → ⊥
refused-stands r source text e = absurd (cc)

stands-same : (s source : List ℕ) (x text : TheoryText) → Stands s x ≡ Stands source text → x ≡ text
stands-same s source x text e = cc e

free_decided : (taken : List (List ℕ)) (f : File) → IsFree taken f ⊎ ¬ IsFree taken f
free_decided taken f = by f.outcome refl
  where
    pick : (s : List ℕ) (x : TheoryText) → f.outcome ≡ Stands s x → IsIn f.theory taken ⊎ ¬ IsIn f.theory taken → Each (λ p. IsIn p taken) (named_imports x) ⊎ ¬ Each (λ p. IsIn p taken) (named_imports x) → IsFree taken f ⊎ ¬ IsFree taken f
    pick s x e (inl there) d = inr (λ w. w.3 there)
    pick s x e (inr left) (inl all) = inl (s, x, e, left, all)
    pick s x e (inr left) (inr never) = inr (λ w. never (subst (λ y. Each (λ p. IsIn p taken) (named_imports y)) (sym (stands-same s w.0 x w.1 (sym e ∙ w.2))) w.4))

    by : (o : Outcome) → f.outcome ≡ o → IsFree taken f ⊎ ¬ IsFree taken f
    by (Refused r) e = inr (λ w. refused-stands r w.0 w.1 (sym e ∙ w.2))
    by (Stands s x) e = pick s x e (text_decided f.theory taken) (each_decided (λ p. IsIn p taken) (λ p. text_decided p taken) (named_imports x))

-- ---- the least that is free
abbrev IsAtMost : List ℕ → List ℕ → Type 0
IsAtMost t u = (t ≡ u) ⊎ (byte_order t u ≡ Less)

record IsLeastFree (taken : List (List ℕ)) (left : List File) : Type 0 where
  front : List File
  file : File
  back : List File
  parts : left ≡ front ++ file ∷ back
  free : IsFree taken file
  least : Each (λ (g : File). IsFree taken g → IsAtMost file.theory g.theory) left

less-most : (t u v : List ℕ) → byte_order t u ≡ Less → IsAtMost u v → IsAtMost t v
less-most t u v less (inl e) = inr (subst (λ w. byte_order t w ≡ Less) e less)
less-most t u v less (inr more) = inr (nat_list_cmp_total.trans t u v less more)

scan : (taken : List (List ℕ)) (left : List File) → Each (λ g. ¬ IsFree taken g) left ⊎ IsLeastFree taken left
scan taken [] = inl tt
scan taken (f ∷ left) = join (free_decided taken f) (scan taken left)
  where
    first : IsFree taken f → Each (λ (g : File). IsFree taken g → IsAtMost f.theory g.theory) left → IsLeastFree taken (f ∷ left)
    first w least = record { front = []; file = f; back = left; parts = refl; free = w; least = (λ h. inl refl, least) }

    later : (l : IsLeastFree taken left) → (IsFree taken f → IsAtMost l.file.theory f.theory) → IsLeastFree taken (f ∷ left)
    later l at_most = record { front = f ∷ l.front; file = l.file; back = l.back; parts = ap (λ fs. f ∷ fs) l.parts; free = l.free; least = (at_most, l.least) }

    compared : IsFree taken f → (l : IsLeastFree taken left) → (o : Ordering) → byte_order f.theory l.file.theory ≡ o → IsLeastFree taken (f ∷ left)
    compared w l Less e = first w (each_imply (λ (g : File). IsFree taken g → IsAtMost l.file.theory g.theory) (λ (g : File). IsFree taken g → IsAtMost f.theory g.theory) left
        (λ g most h. less-most f.theory l.file.theory g.theory e (most h)) l.least)
    compared w l Equal e = later l (λ h. inl (sym (equal_texts f.theory l.file.theory e)))
    compared w l Greater e = later l (λ h. inr (nat_list_cmp_total.antisymm l.file.theory f.theory ∙ ap ordering_reverse e))

    join : IsFree taken f ⊎ ¬ IsFree taken f → Each (λ g. ¬ IsFree taken g) left ⊎ IsLeastFree taken left → Each (λ g. ¬ IsFree taken g) (f ∷ left) ⊎ IsLeastFree taken (f ∷ left)
    join (inr never) (inl none) = inl (never, none)
    join (inr never) (inr l) = inr (later l (λ h. absurd (never h)))
    join (inl w) (inl none) = inr (first w (each_imply (λ g. ¬ IsFree taken g) (λ (g : File). IsFree taken g → IsAtMost f.theory g.theory) left (λ g n h. absurd (n h)) none))
    join (inl w) (inr l) = inr (compared w l (byte_order f.theory l.file.theory) refl)

-- ---- the order
module _ (files : List File) (grounded : AreGrounded files) where
  -- Each file that stands is taken or among those that are left, and these are of the files.
  record AreLeft (taken : List (List ℕ)) (left : List File) : Type 0 where
    covered : (t source : List ℕ) (text : TheoryText) → IsIn (file_of t source text) files → IsIn t taken ⊎ IsIn (file_of t source text) left
    inside : (f : File) → IsIn f left → IsIn f files

  -- where none is free, all are taken
  all-taken : (taken : List (List ℕ)) (left : List File) → AreLeft taken left → Each (λ g. ¬ IsFree taken g) left
      → (n : ℕ) (t source : List ℕ) (text : TheoryText) → IsIn (file_of t source text) files → grounded.rank t < n → IsIn t taken
  all-taken taken left are none zero t source text m h = absurd (omega arith)
  all-taken taken left are none (suc n) t source text m h =
      let imports : Each (λ p. IsIn p taken) (named_imports text) = each_of (λ p. IsIn p taken) (named_imports text) (λ p i.
      let imp : Imports files t p = (source, text, m, i) in
      let there = grounded.stand t p imp in
      all-taken taken left are none n p there.0 there.1 there.2 (omega (arith, grounded.falls t p imp))) in
      elim (text_decided t taken) [
        | inl taken_is ↦ taken_is
        | inr never ↦ elim (are.covered t source text m) [
          | inl taken_is ↦ taken_is
          | inr l ↦ absurd (each_at (λ g. ¬ IsFree taken g) left none (file_of t source text) l (source, text, refl, never, imports))
        ]
      ]

  abbrev Order : List (List ℕ) → Type 0
  Order taken = (loaded : List Loaded) × AreTakenBehind files taken loaded

  taken-next : (taken : List (List ℕ)) (left : List File) → AreLeft taken left → (l : IsLeastFree taken left) → ((more : List (List ℕ)) (rest : List File) → length rest < length left → AreLeft more rest → Order more) → Order taken
  taken-next taken left are l again =
      let f : File = l.file in
      let w = l.free in
      let is : f ≡ file_of f.theory w.0 w.1 = λ i. record { theory = f.theory; outcome = w.2 i } in
      let among : IsIn f left = subst (IsIn f) (sym l.parts) (in-append_right f l.front (f ∷ l.back) (inl refl)) in
      let ready : IsReady files taken f.theory w.0 w.1 = record { stands = subst (λ g. IsIn g files) is (are.inside f among); left = w.3; free = w.4 } in
      let shorter : length (l.front ++ l.back) < length left = omega (arith, ap length l.parts, length-append l.front (f ∷ l.back), length-append l.front l.back) in
      let next : AreLeft (taken ++ f.theory ∷ []) (l.front ++ l.back) = record {
        covered = λ t source text m. elim (are.covered t source text m) [
          | inl there ↦ inl (in-append_left t taken (f.theory ∷ []) there)
          | inr k ↦ elim (moved f l.front l.back (file_of t source text) (subst (IsIn (file_of t source text)) l.parts k)) [
            | inl e ↦ inl (in-append_right t taken (f.theory ∷ []) (inl (ap (λ (g : File). g.theory) e)))
            | inr j ↦ inr j
          ]
        ];
        inside = λ g m. are.inside g (subst (IsIn g) (sym l.parts) (moved_back f l.front l.back g (inr m)));
      } in
      let rest = again (taken ++ f.theory ∷ []) (l.front ++ l.back) shorter next in (
        record { name = f.theory; parents = map (index_among taken) (named_imports w.1); source = w.0; text = w.1 } ∷ rest.0,
        (
          record {
            ready = ready;
            least = λ other bytes tree r. elim (are.covered other bytes tree r.stands) [
              | inl there ↦ absurd (r.left there)
              | inr m ↦ each_at (λ (g : File). IsFree taken g → IsAtMost f.theory g.theory) left l.least (file_of other bytes tree) m (bytes, tree, refl, r.left, r.free)
            ];
          },
          refl,
          rest.1,
        ),
      )

  turn : (taken : List (List ℕ)) (left : List File) → AreLeft taken left → Each (λ g. ¬ IsFree taken g) left ⊎ IsLeastFree taken left
      → ((more : List (List ℕ)) (rest : List File) → length rest < length left → AreLeft more rest → Order more) → Order taken
  turn taken left are (inl none) again = ([], λ t source text m. all-taken taken left are none (suc (grounded.rank t)) t source text m (omega arith))
  turn taken left are (inr l) again = taken-next taken left are l again

  order : (n : ℕ) (taken : List (List ℕ)) (left : List File) → length left ≤ n → AreLeft taken left → Order taken
  order zero taken left short are = turn taken left are (scan taken left) (λ more rest less next. absurd (omega arith))
  order (suc n) taken left short are = turn taken left are (scan taken left) (λ more rest less next. order n more rest (omega arith) next)

  pub order-there : (loaded : List Loaded) × AreInLoadOrder files loaded
  order-there = order (length files) [] files (omega arith) (record { covered = λ t source text m. inr m; inside = λ f m. m })
