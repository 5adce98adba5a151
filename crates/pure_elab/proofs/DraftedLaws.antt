-- How what the program has of the parts of a draft makes up the whole.
use Rattle.std.proofs.Common.{◌≡◌, ℕ, ◌+◌, List, [], ◌∷◌, ◌++◌, map, Option, refl, ap, sym, subst, ◌∙◌, append_assoc, append-nil}
use Rattle.pure_grammar.specs.Terms.RawTree as raw
use Rattle.pure_grammar.specs.Terms.RawTree.{RawTree, RawTypTree}
use Rattle.pure_definitions.specs.Types.Typ.{Typ, arrow}
use Rattle.pure_definitions.specs.Terms.Term.{Term, Abs, App}
use Rattle.pure_elab.specs.declared.draft.Constraints.{Constraints}
use Rattle.pure_elab.specs.Vocabulary.{Vocabulary}
use Rattle.pure_elab.specs.Drafts.{Constraint, Draft, Binder, unknown, raw_place, binder_typ, behind_binder, constrained, draft, whole_draft, pair_of}
use Rattle.pure_elab.specs.Drafted.{constraint_place, AreAdded, IsDrafted}
use Rattle.pure_elab.specs.Finished.{HasConstraintsOf}

map_joined : {A B : Type 0} (f : A → B) (xs ys : List A) → map f (xs ++ ys) ≡ map f xs ++ map f ys
map_joined f [] ys = refl
map_joined f (x ∷ xs) ys = ap (λ l. f x ∷ l) (map_joined f xs ys)

joined_behind : {A B : Type 0} (f : A → B) (old now new : List B) (xs ys : List A) → now ≡ old ++ map f xs → new ≡ now ++ map f ys → new ≡ old ++ map f (xs ++ ys)
joined_behind f old now new xs ys first second =
    second ∙ ap (λ l. l ++ map f ys) first ∙ append_assoc old (map f xs) (map f ys) ∙ sym (ap (λ l. old ++ l) (map_joined f xs ys))

-- Constraints that were added, and further ones behind them.
pub added_joined : (xs ys : List Constraint) (n m : ℕ) (old now new : Constraints) → AreAdded xs n old now → AreAdded ys m now new → AreAdded (xs ++ ys) m old new
added_joined xs ys n m old now new first second = record {
  number = second.number;
  pairs = joined_behind pair_of old.pairs.items now.pairs.items new.pairs.items xs ys first.pairs second.pairs;
  places = joined_behind constraint_place old.places.items now.places.items new.places.items xs ys first.places second.places;
}

pub nothing_added : (n : ℕ) (old new : Constraints) → new.next ≡ n → new.pairs.items ≡ old.pairs.items → new.places.items ≡ old.places.items → AreAdded [] n old new
nothing_added n old new number pairs places = record { number = number; pairs = pairs ∙ sym (append-nil old.pairs.items); places = places ∙ sym (append-nil old.places.items) }

pub one_added : (c : Constraint) (n : ℕ) (old new : Constraints) → new.next ≡ n → new.pairs.items ≡ old.pairs.items ++ pair_of c ∷ [] → new.places.items ≡ old.places.items ++ c.at ∷ [] → AreAdded (c ∷ []) n old new
one_added c n old new number pairs places = record { number = number; pairs = pairs; places = places }

pub leaf_drafted : (d : Draft) (old new : Constraints) (t : Term) (T : Typ) → t ≡ d.term → T ≡ d.typ → d.constraints ≡ [] → AreAdded [] d.next old new → IsDrafted d old new t T
leaf_drafted d old new t T term typ none added = record { term = term; typ = typ; added = subst (λ (cs : List Constraint). AreAdded cs d.next old new) (sym none) added }

-- An application.
pub application_drafted : (V : Vocabulary) (sorts : ℕ → List ℕ) (bs : List Binder) (at : ℕ) (fun arg : RawTree) (s0 s1 s2 s3 : Constraints) (f a t : Term) (F A T : Typ)
    → IsDrafted (draft V sorts bs fun s0.next) s0 s1 f F → IsDrafted (draft V sorts bs arg s1.next) s1 s2 a A
    → t ≡ App f a → T ≡ unknown s2.next → AreAdded (record { at = raw_place arg; left = F; right = arrow A (unknown s2.next) } ∷ []) (s2.next + 1) s2 s3
    → IsDrafted (draft V sorts bs (raw.App at fun arg) s0.next) s0 s3 t T
application_drafted V sorts bs at fun arg s0 s1 s2 s3 f a t F A T first second term typ last =
    let df = draft V sorts bs fun s0.next in
    let da = draft V sorts bs arg df.next in
    let next : IsDrafted da s1 s2 a A = subst (λ (n : ℕ). IsDrafted (draft V sorts bs arg n) s1 s2 a A) first.added.number second in
    let number : s2.next ≡ da.next = next.added.number in
    let wanted : Constraint = record { at = raw_place arg; left = df.typ; right = arrow da.typ (unknown da.next) } in
    let given : Constraint = record { at = raw_place arg; left = F; right = arrow A (unknown s2.next) } in
    let same : given ≡ wanted = λ i. record { at = raw_place arg; left = first.typ i; right = arrow (next.typ i) (unknown (number i)) } in
    let closing = subst (λ (c : Constraint). AreAdded (c ∷ []) (da.next + 1) s2 s3) same (subst (λ (n : ℕ). AreAdded (given ∷ []) (n + 1) s2 s3) number last) in
    let behind = added_joined da.constraints (wanted ∷ []) da.next (da.next + 1) s1 s2 s3 next.added closing in
    record {
      term = term ∙ (λ i. App (first.term i) (next.term i));
      typ = typ ∙ ap unknown number;
      added = added_joined df.constraints (da.constraints ++ wanted ∷ []) df.next (da.next + 1) s0 s1 s3 first.added behind;
    }

-- An abstraction.
pub abstraction_drafted : (V : Vocabulary) (sorts : ℕ → List ℕ) (bs : List Binder) (at : ℕ) (x : List ℕ) (ann : Option RawTypTree) (body : RawTree) (s0 s1 s2 : Constraints) (b t : Term) (W B T : Typ)
    → W ≡ binder_typ V sorts ann s0.next → AreAdded [] (behind_binder ann s0.next) s0 s1
    → IsDrafted (draft V sorts (record { text = x; typ = W } ∷ bs) body s1.next) s1 s2 b B → t ≡ Abs W b → T ≡ arrow W B
    → IsDrafted (draft V sorts bs (raw.Abs at x ann body) s0.next) s0 s2 t T
abstraction_drafted V sorts bs at x ann body s0 s1 s2 b t W B T binder added inside term typ =
    let U = binder_typ V sorts ann s0.next in
    let db = draft V sorts (record { text = x; typ = U } ∷ bs) body (behind_binder ann s0.next) in
    let at_typ : IsDrafted (draft V sorts (record { text = x; typ = U } ∷ bs) body s1.next) s1 s2 b B =
    subst (λ (S : Typ). IsDrafted (draft V sorts (record { text = x; typ = S } ∷ bs) body s1.next) s1 s2 b B) binder inside in
    let next : IsDrafted db s1 s2 b B = subst (λ (n : ℕ). IsDrafted (draft V sorts (record { text = x; typ = U } ∷ bs) body n) s1 s2 b B) added.number at_typ in
    record {
      term = term ∙ (λ i. Abs (binder i) (next.term i));
      typ = typ ∙ (λ i. arrow (binder i) (next.typ i));
      added = added_joined [] db.constraints (behind_binder ann s0.next) db.next s0 s1 s2 added next.added;
    }

-- One constraint more.
pub constrained_drafted : (d : Draft) (at : ℕ) (W : Typ) (s0 s1 s2 : Constraints) (t : Term) (T : Typ)
    → IsDrafted d s0 s1 t T → AreAdded (record { at = at; left = T; right = W } ∷ []) s1.next s1 s2 → IsDrafted (constrained at d W) s0 s2 t T
constrained_drafted d at W s0 s1 s2 t T inside last =
    let closing = subst (λ (S : Typ). AreAdded (record { at = at; left = S; right = W } ∷ []) s1.next s1 s2) inside.typ last in
    let counted = subst (λ (n : ℕ). AreAdded (record { at = at; left = d.typ; right = W } ∷ []) n s1 s2) inside.added.number closing in
    record { term = inside.term; typ = inside.typ; added = added_joined d.constraints (record { at = at; left = d.typ; right = W } ∷ []) d.next d.next s0 s1 s2 inside.added counted }

-- The whole, from no constraints.
pub whole_has : (V : Vocabulary) (sorts : ℕ → List ℕ) (r : RawTree) (W : Typ) (s0 s1 s2 : Constraints) (t : Term) (T : Typ) → s0.next ≡ 0 → s0.pairs.items ≡ [] → s0.places.items ≡ []
    → IsDrafted (draft V sorts [] r s0.next) s0 s1 t T → AreAdded (record { at = raw_place r; left = T; right = W } ∷ []) s1.next s1 s2 → HasConstraintsOf (whole_draft V sorts r W) t s2
whole_has V sorts r W s0 s1 s2 t T zeroed no_pairs no_places inside last =
    let start : IsDrafted (draft V sorts [] r 0) s0 s1 t T = subst (λ (n : ℕ). IsDrafted (draft V sorts [] r n) s0 s1 t T) zeroed inside in
    let whole = constrained_drafted (draft V sorts [] r 0) (raw_place r) W s0 s1 s2 t T start last in
    record {
      term = whole.term;
      pairs = whole.added.pairs ∙ ap (λ l. l ++ map pair_of (whole_draft V sorts r W).constraints) no_pairs;
      places = whole.added.places ∙ ap (λ l. l ++ map constraint_place (whole_draft V sorts r W).constraints) no_places;
    }
