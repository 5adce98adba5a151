-- What is looked through of nodes and their classes: ranks, circles, agreement, and what it says of types.
use Rattle.std.proofs.Common.{◌≡◌, ℕ, zero, suc, ◌+◌, ◌<◌, ◌≤◌, List, [], ◌∷◌, map, length, get_or, Option, Some, None, inl, inr, refl, ap, sym, subst, ◌∙◌, arith, Bool, true, false}
use Rattle.std.specs.Prelude.{slice_get, MatchBool, MatchOption, ⊤}
use Rattle.std.specs.BTreeMap.{BTreeMap}
use Rattle.std.proofs.lemmas.Option.{slice_get_within, slice_get_past, same_Some, none-some}
use Rattle.std.proofs.lemmas.List.{get_or_past, length-map}
use Rattle.std.proofs.lemmas.Bool.{cases_lt}
use Rattle.std.specs.declared.alloc.Global.{Global}
use Rattle.std.specs.declared.vec.Vec.{Vec}
use Rattle.pure_text.specs.Lists.{IsIn, Each}
use Rattle.pure_text.proofs.ListLaws.{any_some, each_at}
use Rattle.pure_definitions.specs.Types.Typ.{Typ, typs_of, typ_size, typs_size}
use Rattle.pure_definitions.specs.Types.Order.{Algebra}
use Rattle.pure_tunify.specs.Unifiers.{HasUnifier, HasNoUnifier}
use Rattle.pure_tunify.specs.Steps.{pair}
use Rattle.pure_tunify.specs.declared.graph.Node.{Node}
use Rattle.pure_tunify.specs.declared.classes.Classes.{Classes}
use Rattle.pure_tunify.specs.Graphs.{Part, variable, made, FitsAll, AreRanked}
use Rattle.pure_tunify.specs.GraphCode.{part_of, KeepsValues, IsKept, root_at, shape_at, rank_at, asked_at, AreNeverMet, IsRankedAt, HasStuckKid, AreOne, IsKnownAt, AreCertain, HaveOneValue, NeverHaveOneValue, AreBefore, IsAdded}
use Rattle.pure_tunify.proofs.GraphUnifier.{closed_values, values_unify, unifier_values}
use Rattle.pure_tunify.proofs.GraphBuildLaws.{stands_on}

in_first : (a b c : ℕ) → a ≡ b → a ≤ b + c
in_first a b c e = omega arith

in_rest : (a b c : ℕ) → a ≤ c → a ≤ b + c
in_rest a b c e = omega arith

-- Each class without a rank has one among the arguments of its shape: values of such ones would go down for ever.
module _ (A : Algebra) (parts : List Part) (roots shapes ranks : List ℕ) (stuck : (r : ℕ) → slice_get ranks r ≡ Some 0 → HasStuckKid parts roots shapes ranks r) where
  module _ (v : ℕ → Typ) (fits : FitsAll A parts v) (by_root : KeepsValues v roots) (by_shape : KeepsValues v shapes) where
    size_in : (kids : List ℕ) (kid : ℕ) → IsIn kid kids → typ_size (v kid) ≤ typs_size (typs_of (map v kids))
    size_in [] kid m = absurd m
    size_in (k ∷ kids) kid (inl e) = in_first (typ_size (v kid)) (typ_size (v k)) (typs_size (typs_of (map v kids))) (ap (λ n. typ_size (v n)) e)
    size_in (k ∷ kids) kid (inr m) = in_rest (typ_size (v kid)) (typ_size (v k)) (typs_size (typs_of (map v kids))) (size_in kids kid m)

    never_below : (n r : ℕ) → typ_size (v r) < n → slice_get ranks r ≡ Some 0 → ⊥
    never_below zero r less at = omega arith
    never_below (suc n) r less at =
        let s = stuck r at in
        let found = any_some (λ kid. slice_get ranks (root_at roots kid) ≡ Some 0) s.1 s.3 in
        let whole : typ_size (v r) ≡ 1 + typs_size (typs_of (map v s.1)) = ap typ_size (by_shape r ∙ fits (get_or shapes r r) (made s.0 s.1) s.2) in
        let part = size_in s.1 found.0 found.1 in
        let same : typ_size (v found.0) ≡ typ_size (v (root_at roots found.0)) = ap typ_size (by_root found.0) in
        never_below n (root_at roots found.0) (omega arith) found.2

  pub circular : (r : ℕ) → slice_get ranks r ≡ Some 0 → AreNeverMet A parts roots shapes
  circular r at v fits by_root by_shape = never_below v fits by_root by_shape (suc (typ_size (v r))) r (omega arith) at

module _ (parts : List Part) (roots shapes ranks : List ℕ) where
  pub all_ranked : (n : ℕ) → length parts ≤ length shapes → length shapes ≤ n → ((r : ℕ) → r < n → IsRankedAt parts roots shapes ranks r) → AreRanked (root_at roots) (shape_at parts shapes) (rank_at ranks)
  all_ranked n short full each r k kids at = elim (cases_lt r n) [
    | inl lower ↦ each r lower k kids at
    | inr up ↦
        let past : get_or shapes r r ≡ r = get_or_past shapes r r (omega arith) in
        absurd (none-some (made k kids) (sym (slice_get_past parts r (omega arith)) ∙ (ap (slice_get parts) (sym past) ∙ at)))
  ]

-- What holds of the nodes below a number that is no less than their count.
pub nodes_all : (P : ℕ → Part → Type 0) (nodes : List Node) (n : ℕ) → length nodes ≤ n → ((i : ℕ) (p : Part) → i < n → slice_get (map part_of nodes) i ≡ Some p → P i p) → (i : ℕ) (p : Part) → slice_get (map part_of nodes) i ≡ Some p → P i p
nodes_all P nodes n full each i p at = each i p (let w = slice_get_within (map part_of nodes) i p at in let l = length-map nodes part_of in omega arith) at

asked_past : (asked : List (Vec ℕ Global)) (r : ℕ) → length asked ≤ r → asked_at asked r ≡ []
asked_past [] r full = refl
asked_past (a ∷ asked) zero full = absurd (omega arith)
asked_past (a ∷ asked) (suc r) full = asked_past asked r (omega arith)

pub asked_read : (asked : List (Vec ℕ Global)) (r : ℕ) (a : Vec ℕ Global) → r < length asked → a ≡ get_or asked r a → asked_at asked r ≡ a.items
asked_read [] r a less read = absurd (omega arith)
asked_read (b ∷ asked) zero a less read = ap (λ (c : Vec ℕ Global). c.items) (sym read)
asked_read (b ∷ asked) (suc r) a less read = asked_read asked r a (omega arith) read

-- What is asked of the classes below a number is met, and of the one at it.
pub met_turn : (P : ℕ → ℕ → Type 0) (asked : List (Vec ℕ Global)) (n : ℕ) (a : Vec ℕ Global) → n < length asked → a ≡ get_or asked n a → ((r c : ℕ) → r < n → IsIn c (asked_at asked r) → P c r) → Each (λ c. P c n) a.items
    → (r c : ℕ) → r < n + 1 → IsIn c (asked_at asked r) → P c r
met_turn P asked n a within read each here r c less m = elim (cases_lt r n) [
  | inl lower ↦ each r c lower m
  | inr up ↦
      let same : n ≡ r = omega arith in
      subst (P c) same (each_at (λ d. P d n) a.items here c (subst (IsIn c) (asked_read asked n a within read) (subst (λ (j : ℕ). IsIn c (asked_at asked j)) (sym same) m)))
]

pub met_all : (P : ℕ → ℕ → Type 0) (asked : List (Vec ℕ Global)) (n : ℕ) → length asked ≤ n → ((r c : ℕ) → r < n → IsIn c (asked_at asked r) → P c r) → (r c : ℕ) → IsIn c (asked_at asked r) → P c r
met_all P asked n full each r c m = elim (cases_lt r n) [ inl lower ↦ each r c lower m | inr up ↦ absurd (subst (IsIn c) (asked_past asked r (omega arith)) m) ]

-- Nodes of one variable are found at one node.
pub known_one : (leaves : BTreeMap Typ ℕ) (parts : List Part) (roots : List ℕ) → ((i : ℕ) (p : Part) → slice_get parts i ≡ Some p → IsKnownAt leaves roots i p) → AreOne parts (root_at roots)
known_one leaves parts roots known i j x k s at_i at_j =
    let a = known i (variable x k s) at_i in
    let b = known j (variable x k s) at_j in
    sym a.2 ∙ (ap (root_at roots) (same_Some a.0 b.0 (a.1 ∙ sym b.1)) ∙ b.2)

-- Whether two nodes have one value.
module _ (A : Algebra) (parts : List Part) (i j : ℕ) where
  pub certain_value : (roots shapes : List ℕ) → AreCertain A parts roots shapes → root_at roots i ≡ root_at roots j → HaveOneValue A parts i j
  certain_value roots shapes c e =
      let h = closed_values A parts (root_at roots) (shape_at parts shapes) (rank_at c.ranks) (asked_at c.asked) c.closed in
      record { value = h.value; fits = h.fits; one = λ a b x k s at_a at_b. h.same a b (c.one a b x k s at_a at_b); same = h.same i j e }

  pub never_joined : (others : List Part) (found : Option Classes) → others ≡ parts → ((B : Algebra) (v : ℕ → Typ) → FitsAll B others v → v i ≡ v j → MatchOption found ⊥ (IsKept v)) → found ≡ None → NeverHaveOneValue A parts i j
  never_joined others found e kept nothing v fits same = subst (λ (o : Option Classes). MatchOption o ⊥ (IsKept v)) nothing (kept A v (subst (λ (ps : List Part). FitsAll A ps v) (sym e) fits) same)

  pub never_value : (others : List Part) (found : Option Classes) (classes : Classes) (roots shapes : List ℕ) → others ≡ parts → ((B : Algebra) (v : ℕ → Typ) → FitsAll B others v → v i ≡ v j → MatchOption found ⊥ (IsKept v)) → found ≡ Some classes
      → roots ≡ classes.parent.items → shapes ≡ classes.shape.items → AreNeverMet A parts roots shapes → NeverHaveOneValue A parts i j
  never_value others found classes roots shapes e kept some is_roots is_shapes never v fits same =
      let k : IsKept v classes = subst (λ (o : Option Classes). MatchOption o ⊥ (IsKept v)) some (kept A v (subst (λ (ps : List Part). FitsAll A ps v) (sym e) fits) same) in
      never v fits (subst (KeepsValues v) (sym is_roots) k.parent) (subst (KeepsValues v) (sym is_shapes) k.shape)

-- Whether the two types have a unifier.
pub unifiable_answer : (A : Algebra) (first second third : List Part) (left right : Typ) (i j : ℕ) (can : Bool) → first ≡ [] → IsAdded first second left i → IsAdded second third right j
    → MatchBool can (HaveOneValue A third i j) (NeverHaveOneValue A third i j) → MatchBool can (HasUnifier A (pair left right ∷ [])) (HasNoUnifier A (pair left right ∷ []))
unifiable_answer A first second third left right i j true empty a b h =
    let u = values_unify A third h.value h.fits h.one in
    (u.0, record { substitution = u.1; equates = (u.2 i left (stands_on second third b.grown i left a.stands) ∙ (h.same ∙ sym (u.2 j right b.stands)), tt) })
unifiable_answer A first second third left right i j false empty a b h = λ typs u.
    let empty_before : AreBefore first = subst AreBefore (sym empty) (λ n k kids at. absurd (none-some (made k kids) at)) in
    let w = unifier_values A third (b.grown.before (a.grown.before empty_before)) typs u.substitution in
    h w.0 w.1 (w.2 i left (stands_on second third b.grown i left a.stands) ∙ (u.equates.0 ∙ sym (w.2 j right b.stands)))

-- What is said of the numbers that stand at places of a list without a rank.
pub stuck_turn : (P : ℕ → Type 0) (ranks : List ℕ) (n : ℕ) → ((r : ℕ) → r < n → slice_get ranks r ≡ Some 0 → P r) → (slice_get ranks n ≡ Some 0 → P n) → (r : ℕ) → r < n + 1 → slice_get ranks r ≡ Some 0 → P r
stuck_turn P ranks n each here r less = elim (cases_lt r n) [
  | inl lower ↦ each r lower
  | inr up ↦ subst (λ (k : ℕ). slice_get ranks k ≡ Some 0 → P k) (let same : n ≡ r = omega arith in same) here
]

pub stuck_all : (P : ℕ → Type 0) (ranks : List ℕ) (n : ℕ) → length ranks ≤ n → ((r : ℕ) → r < n → slice_get ranks r ≡ Some 0 → P r) → (r : ℕ) → slice_get ranks r ≡ Some 0 → P r
stuck_all P ranks n full each r at = each r (let within = slice_get_within ranks r 0 at in omega arith) at

pub never_found : (A : Algebra) (parts others : List Part) (roots shapes : List ℕ) (found : Option (Vec (Vec ℕ Global) Global)) → others ≡ parts → MatchOption found (AreNeverMet A others roots shapes) (λ _. ⊤) → found ≡ None → AreNeverMet A parts roots shapes
never_found A parts others roots shapes found e never nothing = subst (λ (ps : List Part). AreNeverMet A ps roots shapes) e (subst (λ (o : Option (Vec (Vec ℕ Global) Global)). MatchOption o (AreNeverMet A others roots shapes) (λ _. ⊤)) nothing never)
