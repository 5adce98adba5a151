-- Loops: what is made so far and what is left.
use Rattle.std.proofs.Common.{◌≡◌, ◌⊎◌, ℕ, zero, suc, ◌+◌, ◌<◌, ◌≤◌, List, [], ◌∷◌, ◌++◌, map, length, get_or, take, drop, reverse, inl, inr, refl, ap, sym, subst, ◌∙◌, arith, append_assoc}
use Rattle.std.specs.Prelude.{Result, Ok, Err}
use Rattle.std.proofs.lemmas.List.{append-nil, reverse-append}
use Rattle.pure_text.specs.Lists.{IsIn, Each, EachTwo}
use Rattle.pure_text.proofs.ListLaws.{each-append}
use Rattle.pure_definitions.specs.Types.Typ.{Typ, typs_of}
use Rattle.pure_definitions.specs.Terms.Term.{Term}
use Rattle.pure_definitions.specs.Terms.Subst.{TypBind, TermBind, term_variable, typ_image, retyped_variable}
use Rattle.pure_logic.specs.Derivable.{Pair}
use Rattle.pure_norm.specs.declared.fault.NormFault.{NormFault}
use Rattle.pure_norm.specs.declared.fault.NormFault.TheVariants.{Steps, Big, Memory}
use Rattle.pure_unify_definitions.specs.Fronts.{variables, pair_variables}
use Rattle.pure_unify_definitions.specs.LongSides as sides
use Rattle.pure_unify_definitions.specs.LongSides.{AllLong, Stopped, AreLong, no_more, later_stops, both_long}
use Rattle.pure_unify_definitions.specs.Node as node
use Rattle.pure_tunify.specs.Settings.{composed}
use Rattle.pure_unify_definitions.specs.Node.{Typs, Single, with_setting_put, entry_variables}
use Rattle.pure_unify_nodes.specs.SideAnswer.{IsPairAnswer, IsSidesFault}
use Rattle.pure_unify_nodes.proofs.LongLemmas.{pair_stops, HasBrought, brought_none, brought_fault, brought_more, brought_all}
use Rattle.pure_unify_steps.specs.declared.node.Setting.{Setting}
use Rattle.pure_unify_steps.specs.declared.node.Setting.TheVariants.{OfTyps}
use Rattle.pure_unify_steps.specs.Held.{IsSetting, put_in}
use Rattle.pure_unify_steps.specs.Gathered.{gathered}
use Rattle.pure_unify_steps.proofs.PutLaws.{variable_same}
use Rattle.pure_unify_steps.proofs.GatherLaws.{two_at, two_end, gathered-more}
use Rattle.pure_unify_nodes.specs.Long.{IsLongPair}
use Rattle.pure_unify_steps.specs.Old.{HasNoFresh, HaveNoFresh}

-- The pairs with a setting put in, as far as a loop has come.
pub record IsPutSoFar (setting : Setting) (ps : List Pair) (i : ℕ) (made : List Pair) : Type 0 where
  pub goes : (s : node.Setting) → IsSetting setting s → HasBrought (with_setting_put s ps) i made
  pub long : Each IsLongPair made

drop-put_all : (s : node.Setting) (ps : List Pair) (i : ℕ) → drop i (with_setting_put s ps) ≡ with_setting_put s (drop i ps)
drop-put_all s [] zero = refl
drop-put_all s [] (suc i) = refl
drop-put_all s (p ∷ ps) zero = refl
drop-put_all s (p ∷ ps) (suc i) = drop-put_all s ps i

rest_put : (s : node.Setting) (ps : List Pair) (p : Pair) (i : ℕ) → drop i ps ≡ p ∷ drop (i + 1) ps → drop i (with_setting_put s ps) ≡ put_in s p ∷ drop (i + 1) (with_setting_put s ps)
rest_put s ps p i e = drop-put_all s ps i ∙ (ap (with_setting_put s) e ∙ ap (λ qs. put_in s p ∷ qs) (sym (drop-put_all s ps (i + 1))))

pub put_none : (setting : Setting) (ps : List Pair) → IsPutSoFar setting ps 0 []
put_none setting ps = record { goes = λ s k. brought_none (with_setting_put s ps); long = tt }

pub put_fault : (setting : Setting) (ps : List Pair) (i : ℕ) (made : List Pair) (p : Pair) (fault : NormFault) → IsPutSoFar setting ps i made → drop i ps ≡ p ∷ drop (i + 1) ps
    → ((s : node.Setting) → IsSetting setting s → IsPairAnswer (put_in s p) (Err fault)) → (s : node.Setting) → IsSetting setting s → IsSidesFault (with_setting_put s ps) fault
put_fault setting ps i made p fault h e a s k = brought_fault (with_setting_put s ps) i made (put_in s p) fault (h.goes s k) (rest_put s ps p i e) (a s k)

pub put_more : (setting : Setting) (ps : List Pair) (i : ℕ) (made : List Pair) (p q : Pair) → IsPutSoFar setting ps i made → drop i ps ≡ p ∷ drop (i + 1) ps
    → ((s : node.Setting) → IsSetting setting s → IsPairAnswer (put_in s p) (Ok q)) → IsLongPair q → IsPutSoFar setting ps (i + 1) (made ++ q ∷ [])
put_more setting ps i made p q h e a long = record {
  goes = λ s k. brought_more (with_setting_put s ps) i made (put_in s p) q (h.goes s k) (rest_put s ps p i e) (a s k);
  long = each-append IsLongPair made (q ∷ []) h.long (long, tt);
}

pub put_all : (setting : Setting) (ps : List Pair) (i : ℕ) (made : List Pair) → IsPutSoFar setting ps i made → drop i ps ≡ [] → (s : node.Setting) → IsSetting setting s → AreLong (with_setting_put s ps) (AllLong made)
put_all setting ps i made h e s k = brought_all (with_setting_put s ps) i made (h.goes s k) (drop-put_all s ps i ∙ ap (with_setting_put s) e)

-- The same where pairs are taken from the front: with those that are left all come to what was made and what they come to.
pub record IsPutOnto (setting : Setting) (ps left made : List Pair) : Type 0 where
  pub goes : (s : node.Setting) → IsSetting setting s → (qs : List Pair) → AreLong (with_setting_put s left) (AllLong qs) → AreLong (with_setting_put s ps) (AllLong (made ++ qs))
  pub stops : (s : node.Setting) → IsSetting setting s → (stop : sides.Stop) → AreLong (with_setting_put s left) (Stopped stop) → AreLong (with_setting_put s ps) (Stopped stop)
  pub rest : Each IsLongPair left
  pub long : Each IsLongPair made

pub onto_start : (setting : Setting) (ps left made : List Pair) → left ≡ ps → made ≡ [] → Each IsLongPair ps → IsPutOnto setting ps left made
onto_start setting ps left made e f h =
    let start : IsPutOnto setting ps ps [] = record { goes = λ s k qs l. l; stops = λ s k stop l. l; rest = h; long = tt } in
    subst (λ (os : List Pair). IsPutOnto setting ps left os) (sym f) (subst (λ (qs : List Pair). IsPutOnto setting ps qs []) (sym e) start)

pub onto_next : (setting : Setting) (ps left rest made : List Pair) (p : Pair) → left ≡ p ∷ rest → IsPutOnto setting ps left made → IsLongPair p
onto_next setting ps left rest made p e h = (subst (λ (qs : List Pair). Each IsLongPair qs) e h.rest).0

pub onto_more : (setting : Setting) (ps left rest made more : List Pair) (p q : Pair) → left ≡ p ∷ rest → more ≡ made ++ q ∷ []
    → ((s : node.Setting) → IsSetting setting s → IsPairAnswer (put_in s p) (Ok q)) → IsLongPair q → IsPutOnto setting ps left made → IsPutOnto setting ps rest more
onto_more setting ps left rest made more p q e f a long h =
    let now : IsPutOnto setting ps (p ∷ rest) made = subst (λ (qs : List Pair). IsPutOnto setting ps qs made) e h in
    subst (λ (os : List Pair). IsPutOnto setting ps rest os) (sym f) (record {
      goes = λ s k qs l. subst (λ (os : List Pair). AreLong (with_setting_put s ps) (AllLong os)) (sym (append_assoc made (q ∷ []) qs)) (now.goes s k (q ∷ qs) (both_long (a s k).0 (a s k).1 l));
      stops = λ s k stop l. now.stops s k stop (later_stops (a s k).0 (a s k).1 l);
      rest = now.rest.1;
      long = each-append IsLongPair made (q ∷ []) now.long (long, tt);
    })

first_fault : (p : Pair) (rest ps : List Pair) (fault : NormFault) → ((stop : sides.Stop) → AreLong (p ∷ rest) (Stopped stop) → AreLong ps (Stopped stop)) → IsPairAnswer p (Err fault) → IsSidesFault ps fault
first_fault p rest ps Big f a = f sides.Big (pair_stops p rest sides.Big a)
first_fault p rest ps Steps f a = f sides.Steps (pair_stops p rest sides.Steps a)
first_fault p rest ps Memory f a = tt

pub onto_fault : (setting : Setting) (ps left rest made : List Pair) (p : Pair) (fault : NormFault) → left ≡ p ∷ rest
    → ((s : node.Setting) → IsSetting setting s → IsPairAnswer (put_in s p) (Err fault)) → IsPutOnto setting ps left made → (s : node.Setting) → IsSetting setting s → IsSidesFault (with_setting_put s ps) fault
onto_fault setting ps left rest made p fault e a h s k =
    let now : IsPutOnto setting ps (p ∷ rest) made = subst (λ (qs : List Pair). IsPutOnto setting ps qs made) e h in
    first_fault (put_in s p) (with_setting_put s rest) (with_setting_put s ps) fault (now.stops s k) (a s k)

pub onto_all : (setting : Setting) (ps left made : List Pair) → length left ≡ 0 → IsPutOnto setting ps left made → (s : node.Setting) → IsSetting setting s → AreLong (with_setting_put s ps) (AllLong made)
onto_all setting ps [] made e h s k = subst (λ (os : List Pair). AreLong (with_setting_put s ps) (AllLong os)) (append-nil made) (h.goes s k [] no_more)
onto_all setting ps (p ∷ left) made e h s k = absurd (omega (arith, e))

-- Lists of variables, as far as a loop has come.
pub pairs_start : (list : List Term) (ps : List Pair) → list ++ pair_variables ps ≡ list ++ pair_variables (drop 0 ps)
pairs_start list [] = refl
pairs_start list (p ∷ ps) = refl

pub pairs_turn : (start list one two : List Term) (ps : List Pair) (p : Pair) (i : ℕ) → start ≡ list ++ pair_variables (drop i ps) → drop i ps ≡ p ∷ drop (i + 1) ps → one ≡ list ++ variables p.left → two ≡ one ++ variables p.right
    → start ≡ two ++ pair_variables (drop (i + 1) ps)
pairs_turn start list one two ps p i h e f g =
    h ∙ (ap (λ qs. list ++ pair_variables qs) e ∙ (sym (append_assoc list (variables p.left) (variables p.right ++ pair_variables (drop (i + 1) ps)))
    ∙ (ap (λ vs. vs ++ (variables p.right ++ pair_variables (drop (i + 1) ps))) (sym f) ∙ (sym (append_assoc one (variables p.right) (pair_variables (drop (i + 1) ps))) ∙ ap (λ vs. vs ++ pair_variables (drop (i + 1) ps)) (sym g)))))

pub pairs_end : (start list : List Term) (ps : List Pair) (i : ℕ) → start ≡ list ++ pair_variables (drop i ps) → drop i ps ≡ [] → list ≡ start
pairs_end start list ps i h e = sym (h ∙ (ap (λ qs. list ++ pair_variables qs) e ∙ append-nil list))

pub entries_turn : (start list one two : List Term) (bs : List TermBind) (b : TermBind) (i : ℕ) → start ≡ list ++ entry_variables (drop i bs) → drop i bs ≡ b ∷ drop (i + 1) bs → one ≡ list ++ term_variable b ∷ [] → two ≡ one ++ variables b.image
    → start ≡ two ++ entry_variables (drop (i + 1) bs)
entries_turn start list one two bs b i h e f g =
    h ∙ (ap (λ cs. list ++ entry_variables cs) e ∙ (sym (append_assoc list (term_variable b ∷ []) (variables b.image ++ entry_variables (drop (i + 1) bs)))
    ∙ (ap (λ vs. vs ++ (variables b.image ++ entry_variables (drop (i + 1) bs))) (sym f) ∙ (sym (append_assoc one (variables b.image) (entry_variables (drop (i + 1) bs))) ∙ ap (λ vs. vs ++ entry_variables (drop (i + 1) bs)) (sym g)))))

pub entries_end : (start list : List Term) (bs : List TermBind) (i : ℕ) → start ≡ list ++ entry_variables (drop i bs) → drop i bs ≡ [] → list ≡ start
entries_end start list bs i h e = sym (h ∙ (ap (λ cs. list ++ entry_variables cs) e ∙ append-nil list))

pub map_turn : (f : Term → Term) (start list made : List Term) (vs : List Term) (v w : Term) (i : ℕ) → start ≡ list ++ map f (drop i vs) → drop i vs ≡ v ∷ drop (i + 1) vs → w ≡ f v → made ≡ list ++ w ∷ [] → start ≡ made ++ map f (drop (i + 1) vs)
map_turn f start list made vs v w i h e k g =
    h ∙ (ap (λ ws. list ++ map f ws) e ∙ (ap (λ u. list ++ u ∷ map f (drop (i + 1) vs)) (sym k) ∙ (sym (append_assoc list (w ∷ []) (map f (drop (i + 1) vs))) ∙ ap (λ us. us ++ map f (drop (i + 1) vs)) (sym g))))

pub map_end : (f : Term → Term) (start list : List Term) (vs : List Term) (i : ℕ) → start ≡ list ++ map f (drop i vs) → drop i vs ≡ [] → list ≡ start
map_end f start list vs i h e = sym (h ∙ (ap (λ ws. list ++ map f ws) e ∙ append-nil list))

-- One type more of a list without fresh variables.
pub none_fresh_more : (index from : ℕ) (ts : List Typ) (i : ℕ) (t : Typ) → i < length ts → t ≡ get_or ts i t → HaveNoFresh index from (typs_of (take i ts)) → HasNoFresh index from t → HaveNoFresh index from (typs_of (take (i + 1) ts))
none_fresh_more index from [] i t h e k l = absurd (omega arith)
none_fresh_more index from (u ∷ us) zero t h e k l = (subst (HasNoFresh index from) e l, tt)
none_fresh_more index from (u ∷ us) (suc i) t h e k l =
    let next : suc i + 1 ≡ suc (i + 1) = omega arith in
    rw next (k.0, none_fresh_more index from us i t (omega arith) e k.1 l)

-- A type with fresh variables, among types.
pub some_fresh : (index from : ℕ) (ts : List Typ) (i : ℕ) (t : Typ) → i < length ts → t ≡ get_or ts i t → ¬ HasNoFresh index from t → ¬ HaveNoFresh index from (typs_of ts)
some_fresh index from [] i t h e n k = absurd (omega arith)
some_fresh index from (u ∷ us) zero t h e n k = n (subst (HasNoFresh index from) (sym e) k.0)
some_fresh index from (u ∷ us) (suc i) t h e n k = some_fresh index from us i t (omega arith) e n k.1

-- Gathering, as far as a loop has come.
pub gather_turn : (settings : List Setting) (ss : List node.Setting) (i : ℕ) (item : Setting) (list made : List Term) → EachTwo IsSetting settings ss → i < length settings → item ≡ get_or settings i item
    → gathered [] ss ≡ gathered list (drop i ss) → ((s : node.Setting) → IsSetting item s → made ≡ gathered list (s ∷ [])) → gathered [] ss ≡ gathered made (drop (i + 1) ss)
gather_turn settings ss i item list made h within is inv one =
    let found = two_at IsSetting settings ss i item h within is in
    inv ∙ (ap (gathered list) found.2 ∙ (gathered-more list found.0 (drop (i + 1) ss) ∙ ap (λ vs. gathered vs (drop (i + 1) ss)) (sym (one found.0 found.1))))

pub gather_end : (settings : List Setting) (ss : List node.Setting) (i : ℕ) (list : List Term) → EachTwo IsSetting settings ss → length settings ≤ i → gathered [] ss ≡ gathered list (drop i ss) → list ≡ gathered [] ss
gather_end settings ss i list h over inv = sym (inv ∙ ap (gathered list) (two_end IsSetting settings ss i h over))

map-same : (f g : Term → Term) → ((v : Term) → f v ≡ g v) → (vs : List Term) → map f vs ≡ map g vs
map-same f g same [] = refl
map-same f g same (v ∷ vs) = λ i. same v i ∷ map-same f g same vs i

pub gather_typs : (typs : List TypBind) (list made : List Term) (setting : Setting) → setting ≡ OfTyps typs → made ≡ map (retyped_variable (typ_image typs)) list → (s : node.Setting) → IsSetting setting s → made ≡ gathered list (s ∷ [])
gather_typs typs list made setting e h s k = by s (subst (λ (x : Setting). IsSetting x s) e k)
  where
    by : (s : node.Setting) → IsSetting (OfTyps typs) s → made ≡ gathered list (s ∷ [])
    by (Typs sets) w = h ∙ map-same (retyped_variable (typ_image typs)) (retyped_variable (composed sets)) (variable_same sets typs w.0) list
    by (Single b) w = absurd w

-- A front that is taken, as far as a loop has come.
pub front_turn : (start rest less front more : List Pair) (p : Pair) → start ≡ rest ++ reverse front → rest ≡ less ++ p ∷ [] → more ≡ front ++ p ∷ [] → start ≡ less ++ reverse more
front_turn start rest less front more p h e f =
    h ∙ (ap (λ ps. ps ++ reverse front) e ∙ (append_assoc less (p ∷ []) (reverse front) ∙ ap (λ ps. less ++ ps) (sym (reverse-append front (p ∷ [])) ∙ ap (λ ps. reverse ps) (sym f))))
