-- Classes of nodes that have one value: what the steps that make them keep.
use Rattle.std.proofs.Common.{◌≡◌, ℕ, zero, suc, ◌<◌, List, [], ◌∷◌, ◌++◌, map, length, get_or, Some, inl, inr, refl, ap, sym, subst, ◌∙◌, arith, Bool, true, false}
use Rattle.std.specs.Prelude.{slice_get, MatchBool}
use Rattle.std.specs.declared.alloc.Global.{Global}
use Rattle.std.specs.declared.vec.Vec.{Vec}
use Rattle.pure_text.specs.Lists.{Each, AnyOf}
use Rattle.pure_text.proofs.ListLaws.{each-append, each-left, each-right, each_read, two_long, two_read}
use Rattle.pure_definitions.specs.Types.Typ.{Typ, Con, Typs, none, also, typs_of}
use Rattle.pure_definitions.specs.Types.Order.{Algebra, IsOfClass, AreOfSorts, IsOfSort}
use Rattle.pure_order.proofs.DomainLaws.{are_of_sorts}
use Rattle.pure_tunify.specs.Graphs.{Part, made, Fits, FitsAll}
use Rattle.pure_tunify.specs.declared.graph.Node.{Node}
use Rattle.pure_tunify.specs.declared.classes.Couple.{Couple}
use Rattle.pure_tunify.specs.declared.classes.Classes.{Classes}
use Rattle.pure_tunify.specs.declared.demands.Demand.{Demand}
use Rattle.pure_tunify.specs.GraphCode.{part_of, KeepsValues, AreCoupled, IsKept, AreNodesMet, AreJoined, AreClosed, AreDemanded, IsDemanding, IsAsking, AreNeverMet}

none_also : (t : Typ) (ts : Typs) → none ≡ also t ts → ⊥
none_also t ts e = cc

typs_same : (ts us : List Typ) → typs_of ts ≡ typs_of us → ts ≡ us
typs_same [] [] e = refl
typs_same [] (u ∷ us) e = absurd (none_also u (typs_of us) e)
typs_same (t ∷ ts) [] e = absurd (none_also t (typs_of ts) (sym e))
typs_same (t ∷ ts) (u ∷ us) e = λ l. first_of t u (typs_of ts) (typs_of us) e l ∷ typs_same ts us (rest_of t u (typs_of ts) (typs_of us) e) l
  where
    first_of : (t u : Typ) (ts us : Typs) → also t ts ≡ also u us → t ≡ u
    first_of t u ts us e = cc

    rest_of : (t u : Typ) (ts us : Typs) → also t ts ≡ also u us → ts ≡ us
    rest_of t u ts us e = cc

con_args : (k l : ℕ) (ts us : Typs) → Con k ts ≡ Con l us → ts ≡ us
con_args k l ts us e = cc

map-long : (v : ℕ → Typ) (js : List ℕ) → length (map v js) ≡ length js
map-long v [] = refl
map-long v (j ∷ js) = ap suc (map-long v js)

some_nothing : (t : Typ) (ts : List Typ) → t ∷ ts ≡ [] → ⊥
some_nothing t ts e = cc

head_same : (t u : Typ) (ts us : List Typ) → t ∷ ts ≡ u ∷ us → t ≡ u
head_same t u ts us e = cc

tail_same : (t u : Typ) (ts us : List Typ) → t ∷ ts ≡ u ∷ us → ts ≡ us
tail_same t u ts us e = cc

map_read : (v : ℕ → Typ) (js ks : List ℕ) (i j k : ℕ) → map v js ≡ map v ks → i < length js → j ≡ get_or js i j → k ≡ get_or ks i k → v j ≡ v k
map_read v [] ks i j k e less rj rk = absurd (omega arith)
map_read v (x ∷ js) [] i j k e less rj rk = absurd (some_nothing (v x) (map v js) e)
map_read v (x ∷ js) (y ∷ ks) zero j k e less rj rk = ap v rj ∙ (head_same (v x) (v y) (map v js) (map v ks) e ∙ sym (ap v rk))
map_read v (x ∷ js) (y ∷ ks) (suc i) j k e less rj rk = map_read v js ks i j k (tail_same (v x) (v y) (map v js) (map v ks) e) (omega arith) rj rk

-- Couples that are put behind others, and taken from behind.
pub coupled_more : (v : ℕ → Typ) (old new : List Couple) (c : Couple) → new ≡ old ++ c ∷ [] → AreCoupled v old → v c.left ≡ v c.right → AreCoupled v new
coupled_more v old new c e each same = subst (AreCoupled v) (sym e) (each-append (λ (d : Couple). v d.left ≡ v d.right) old (c ∷ []) each (same, tt))

pub coupled_left : (v : ℕ → Typ) (old new : List Couple) (c : Couple) → old ≡ new ++ c ∷ [] → AreCoupled v old → AreCoupled v new × (v c.left ≡ v c.right)
coupled_left v old new c e each =
    let all = subst (AreCoupled v) e each in
    (each-left (λ (d : Couple). v d.left ≡ v d.right) new (c ∷ []) all, (each-right (λ (d : Couple). v d.left ≡ v d.right) new (c ∷ []) all).0)

pub coupled_turn : (v : ℕ → Typ) (lefts rights : List ℕ) (i l r : ℕ) (old new : List Couple) → i < length lefts → l ≡ get_or lefts i l → r ≡ get_or rights i r → new ≡ old ++ record { left = l; right = r } ∷ []
    → map v lefts ≡ map v rights → AreCoupled v old → AreCoupled v new
coupled_turn v lefts rights i l r old new less rl rr e same each = coupled_more v old new (record { left = l; right = r }) e each (map_read v lefts rights i l r same less rl rr)

-- Two nodes that have one value: their heads are the same, and their arguments have one value each.
module _ (old new : List Couple) where
  pub made_longer : (k l : ℕ) (ks ls : List ℕ) → (length ks ≡ length ls → ⊥) → AreNodesMet (made k ks) (made l ls) old new false
  made_longer k l ks ls apart A v t f g each =
      apart (sym (map-long v ks) ∙ (ap length (typs_same (map v ks) (map v ls) (con_args k l _ _ (sym f ∙ g))) ∙ map-long v ls))

  pub made_met : (k l : ℕ) (ks ls : List ℕ) → ((v : ℕ → Typ) → AreCoupled v old → map v ks ≡ map v ls → AreCoupled v new) → AreNodesMet (made k ks) (made l ls) old new true
  made_met k l ks ls more A v t f g each = more v each (typs_same (map v ks) (map v ls) (con_args k l _ _ (sym f ∙ g)))

-- What sorts ask.
pub demanded_more : (A : Algebra) (v : ℕ → Typ) (old new : List Demand) (d : Demand) → new ≡ old ++ d ∷ [] → AreDemanded A v old → IsOfClass A (v d.node) d.class → AreDemanded A v new
demanded_more A v old new d e each of = subst (AreDemanded A v) (sym e) (each-append (λ (x : Demand). IsOfClass A (v x.node) x.class) old (d ∷ []) each (of, tt))

pub demanded_left : (A : Algebra) (v : ℕ → Typ) (old new : List Demand) (d : Demand) → old ≡ new ++ d ∷ [] → AreDemanded A v old → AreDemanded A v new × IsOfClass A (v d.node) d.class
demanded_left A v old new d e each =
    let all = subst (AreDemanded A v) e each in
    (each-left (λ (x : Demand). IsOfClass A (v x.node) x.class) new (d ∷ []) all, (each-right (λ (x : Demand). IsOfClass A (v x.node) x.class) new (d ∷ []) all).0)

pub sort_turn : (A : Algebra) (v : ℕ → Typ) (sort : List ℕ) (i c node : ℕ) (old new : List Demand) → i < length sort → c ≡ get_or sort i c → new ≡ old ++ record { node = node; class = c } ∷ []
    → IsOfSort A (v node) sort → AreDemanded A v old → AreDemanded A v new
sort_turn A v sort i c node old new less read e of each = demanded_more A v old new (record { node = node; class = c }) e each (each_read (IsOfClass A (v node)) sort i c less read of)

map_get : (v : ℕ → Typ) (js : List ℕ) (i j : ℕ) → i < length js → j ≡ get_or js i j → v j ≡ get_or (map v js) i (v j)
map_get v [] i j less read = absurd (omega arith)
map_get v (k ∷ js) zero j less read = ap v read
map_get v (k ∷ js) (suc i) j less read = map_get v js i j (omega arith) read

pub kid_of_sort : (A : Algebra) (v : ℕ → Typ) (kids : List ℕ) (domains : List (List ℕ)) (i kid : ℕ) (sort : List ℕ) → i < length kids → kid ≡ get_or kids i kid → sort ≡ get_or domains i sort
    → AreOfSorts A (typs_of (map v kids)) domains → IsOfSort A (v kid) sort
kid_of_sort A v kids domains i kid sort less rk rs of =
    two_read (IsOfSort A) (map v kids) domains i (v kid) sort (let m = map-long v kids in omega arith) (map_get v kids i kid less rk) rs ((are_of_sorts A (map v kids) domains).0 of)

pub long_domains : (A : Algebra) (v : ℕ → Typ) (kids : List ℕ) (domains : List (List ℕ)) → AreOfSorts A (typs_of (map v kids)) domains → length kids ≡ length domains
long_domains A v kids domains of = sym (map-long v kids) ∙ two_long (IsOfSort A) (map v kids) domains ((are_of_sorts A (map v kids) domains).0 of)

module _ (A : Algebra) (old new : List Demand) (c : ℕ) where
  module _ (k : ℕ) (kids : List ℕ) (domains : List (List ℕ)) (exact : (ts : Typs) → (IsOfClass A (Con k ts) c → AreOfSorts A ts domains) × (AreOfSorts A ts domains → IsOfClass A (Con k ts) c)) where
    pub long_demand : (length kids ≡ length domains → ⊥) → IsDemanding A (made k kids) c old new false
    long_demand apart v t f of each = apart (long_domains A v kids domains ((exact (typs_of (map v kids))).0 (subst (λ (T : Typ). IsOfClass A T c) f of)))

-- Reading nodes as parts.
pub node_at : (nodes : List Node) (i : ℕ) (n : Node) → i < length nodes → n ≡ get_or nodes i n → slice_get (map part_of nodes) i ≡ Some (part_of n)
node_at [] i n less read = absurd (omega arith)
node_at (m ∷ nodes) zero n less read = ap (λ k. Some (part_of k)) (sym read)
node_at (m ∷ nodes) (suc i) n less read = node_at nodes i n (omega arith) read

pub number_read : (xs : List ℕ) (i : ℕ) → i < length xs → get_or xs i 0 ≡ get_or xs i (get_or xs i 0)
number_read [] i less = absurd (omega arith)
number_read (x ∷ xs) zero less = refl
number_read (x ∷ xs) (suc i) less = number_read xs i (omega arith)

pub same_counts : (xs ys : List ℕ) (i : ℕ) → length xs ≡ length ys → i < length xs → i < length ys
same_counts xs ys i same less = omega arith

pub none_any : {X : Type 0} (P : X → Type 0) (xs : List X) → Each (λ x. ¬ P x) xs → ¬ AnyOf P xs
none_any P [] each m = m
none_any P (x ∷ xs) each (inl p) = each.0 p
none_any P (x ∷ xs) each (inr m) = none_any P xs each.1 m

-- What stands behind a number.
pub keeps_read : (v : ℕ → Typ) (xs ys : List ℕ) (i n : ℕ) → KeepsValues v xs → ys ≡ xs → n ≡ get_or ys i i → v i ≡ v n
keeps_read v xs ys i n kept e read = kept i ∙ sym (ap v (read ∙ ap (λ zs. get_or zs i i) e))

-- Two classes made one.
module _ (parts : List Part) where
  pub joined : (old new : Classes) (low high first second : ℕ) (p q : Part) (can : Bool) → slice_get parts first ≡ Some p → slice_get parts second ≡ Some q
      → ((v : ℕ → Typ) → KeepsValues v old.shape.items → (v low ≡ v first) × (v high ≡ v second))
      → ((v : ℕ → Typ) → KeepsValues v old.parent.items → v high ≡ v low → KeepsValues v new.parent.items)
      → ((v : ℕ → Typ) → KeepsValues v old.shape.items → v low ≡ v second → KeepsValues v new.shape.items)
      → AreNodesMet p q old.work.items new.work.items can → AreJoined parts old new low high can
  joined old new low high first second p q can at_first at_second shapes hung chosen met A v fits kept e = by can (met A v (v first) (fits first p at_first) (subst (Fits A v q) (sym second_first) (fits second q at_second)) kept.work)
    where
      low_second : v low ≡ v second
      low_second = e ∙ (shapes v kept.shape).1

      second_first : v first ≡ v second
      second_first = sym (shapes v kept.shape).0 ∙ low_second

      by : (b : Bool) → MatchBool b (AreCoupled v new.work.items) ⊥ → MatchBool b (IsKept v new) ⊥
      by true work = record { parent = hung v kept.parent (sym e); shape = chosen v kept.shape low_second; work = work }
      by false never = never

  pub joined_roots : (old mid new : Classes) (first : List ℕ) (i j a b : ℕ) (can : Bool) → ((v : ℕ → Typ) → KeepsValues v old.parent.items → KeepsValues v first × (v i ≡ v a))
      → ((v : ℕ → Typ) → KeepsValues v first → KeepsValues v mid.parent.items × (v j ≡ v b)) → mid.shape ≡ old.shape → mid.work ≡ old.work → AreJoined parts mid new a b can → AreJoined parts old new i j can
  joined_roots old mid new first i j a b can to_a to_b shape work join A v fits kept e =
      let one = to_a v kept.parent in
      let two = to_b v one.0 in
      join A v fits
      (record {
        parent = two.0;
        shape = subst (λ (s : Vec ℕ Global). KeepsValues v s.items) (sym shape) kept.shape;
        work = subst (λ (w : Vec Couple Global). AreCoupled v w.items) (sym work) kept.work;
      })
      (sym one.1 ∙ (e ∙ two.1))

  pub turned_round : (old new : Classes) (i j : ℕ) (can : Bool) → AreJoined parts old new i j can → AreJoined parts old new j i can
  turned_round old new i j can join A v fits kept e = join A v fits kept (sym e)

  pub closing : (now mid new : Classes) (c : Couple) (can : Bool) → mid.parent ≡ now.parent → mid.shape ≡ now.shape → now.work.items ≡ mid.work.items ++ c ∷ [] → AreJoined parts mid new c.left c.right can → AreClosed parts now new can
  closing now mid new c can parent shape work join A v fits kept =
      let left = coupled_left v now.work.items mid.work.items c work kept.work in
      join A v fits
      (record {
        parent = subst (λ (s : Vec ℕ Global). KeepsValues v s.items) (sym parent) kept.parent;
        shape = subst (λ (s : Vec ℕ Global). KeepsValues v s.items) (sym shape) kept.shape;
        work = left.0;
      })
      left.1

  pub closed_false : (old new : Classes) (can : Bool) → AreClosed parts old new can → can ≡ false → (A : Algebra) (v : ℕ → Typ) → FitsAll A parts v → IsKept v old → ⊥
  closed_false old new can h e A v fits kept = subst (λ (b : Bool). MatchBool b (IsKept v new) ⊥) e (h A v fits kept)

  pub closed_true : (old new : Classes) (can : Bool) → AreClosed parts old new can → can ≡ true → (A : Algebra) (v : ℕ → Typ) → FitsAll A parts v → IsKept v old → IsKept v new
  closed_true old new can h e A v fits kept = subst (λ (b : Bool). MatchBool b (IsKept v new) ⊥) e (h A v fits kept)

-- What is asked of all nodes.
module _ (A : Algebra) (parts : List Part) (roots shapes : List ℕ) where
  pub asking : (node class root first : ℕ) (p : Part) (old new : List Demand) (can : Bool) → root ≡ get_or roots node node → first ≡ get_or shapes root root → slice_get parts first ≡ Some p → IsDemanding A p class old new can
      → IsAsking A parts roots shapes node class old new can
  asking node class root first p old new can is_root is_first at demands v fits by_root by_shape of each =
      demands v (v first) (fits first p at) (subst (λ (T : Typ). IsOfClass A T class) (by_root node ∙ (sym (ap v is_root) ∙ (by_shape root ∙ sym (ap v is_first)))) of) each

  pub asked_step : (now rest new : List Demand) (d : Demand) (can : Bool) → now ≡ rest ++ d ∷ [] → IsAsking A parts roots shapes d.node d.class rest new can
      → ((v : ℕ → Typ) → FitsAll A parts v → KeepsValues v roots → KeepsValues v shapes → AreDemanded A v now)
      → MatchBool can ((v : ℕ → Typ) → FitsAll A parts v → KeepsValues v roots → KeepsValues v shapes → AreDemanded A v new) (AreNeverMet A parts roots shapes)
  asked_step now rest new d true e asks so_far = λ v fits by_root by_shape. let left = demanded_left A v now rest d e (so_far v fits by_root by_shape) in asks v fits by_root by_shape left.1 left.0
  asked_step now rest new d false e asks so_far = λ v fits by_root by_shape. let left = demanded_left A v now rest d e (so_far v fits by_root by_shape) in asks v fits by_root by_shape left.1 left.0
