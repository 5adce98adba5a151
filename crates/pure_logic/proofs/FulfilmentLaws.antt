-- Promises are fulfilled one after another, and those that are joined are derivable alone.
use Rattle.std.proofs.Common.{◌≡◌, ◌⊎◌, Bool, true, false, cond, ◌&&◌, nat_eq, List, [], ◌∷◌, ◌++◌, inl, inr, refl}
use Rattle.std.proofs.lemmas.Bool.{eqb-true}
use Rattle.std.specs.Cmp.{first_so, second_so}
use Rattle.std.specs.List.{list_all}
use Rattle.pure_text.specs.Lists.{IsIn, Each}
use Rattle.pure_text.proofs.ListLaws.{each_of, in-append_left, in-append_right, each_imply, each_at}
use Rattle.pure_definitions.specs.Names.{Label}
use Rattle.pure_definitions.specs.Terms.Term.{Term}
use Rattle.pure_logic.specs.Content.{Content, IsContent, IsBelow}
use Rattle.pure_logic.specs.Derivable.{Theorem, IsDerivable, IsDerivableAlone}
use Rattle.pure_logic.specs.Proves.{Proves}
use Rattle.pure_logic.specs.Fulfilment.{label_eq, Fulfilment, IsFulfilment, Serves, put_for_label, left_after, AreServing, is_label_of, joined, AreFulfilments}
use Rattle.pure_logic.specs.Laws.Promises.{IsSettled, IsProvedFor}
use Rattle.pure_logic.proofs.ProvesLaws.{weaker, derivable_is_proves}
use Rattle.pure_logic.proofs.WeakeningLaws.{weakening_of_derivable}
use Rattle.pure_logic.proofs.PromiseLaws.{cut_by_proofs, settled_is_derivable}
use Rattle.pure_definitions.proofs.EntryLemmas.{chosen}

label_eq-same : (k l : Label) → label_eq k l ≡ true → k ≡ l
label_eq-same k l e =
    let theories = eqb-true k.theory l.theory (first_so (nat_eq k.theory l.theory) (nat_eq k.command l.command && nat_eq k.part l.part) e) in
    let rest = second_so (nat_eq k.theory l.theory) (nat_eq k.command l.command && nat_eq k.part l.part) e in
    let commands = eqb-true k.command l.command (first_so (nat_eq k.command l.command) (nat_eq k.part l.part) rest) in
    let parts = eqb-true k.part l.part (second_so (nat_eq k.command l.command) (nat_eq k.part l.part) rest) in
    λ i. record { theory = theories i; command = commands i; part = parts i }

module _ (e : Fulfilment) where
  -- A label that isn't the fulfilment's own stays.
  label-stays : (l : Label) (ls : List Label) → label_eq e.label l ≡ false → IsIn l ls → IsIn l (put_for_label e ls)
  label-stays l [] apart m = absurd m
  label-stays l (k ∷ ks) apart (inl same) = rw (← same) (rw apart (inl refl))
  label-stays l (k ∷ ks) apart (inr m) =
      let later = label-stays l ks apart m in
      chosen (λ ls. IsIn l ls) (label_eq e.label k) (e.rests ++ put_for_label e ks) (k ∷ put_for_label e ks) (λ t. in-append_right l e.rests (put_for_label e ks) later) (inr later)

  -- In the place of its own label stand those on which its proof rests.
  labels-put : (l : Label) (ls : List Label) → label_eq e.label l ≡ true → IsIn l ls → (k : Label) → IsIn k e.rests → IsIn k (put_for_label e ls)
  labels-put l [] own m k n = absurd m
  labels-put l (j ∷ js) own (inl same) k n = rw (← same) (rw own (in-append_left k e.rests (put_for_label e js) n))
  labels-put l (j ∷ js) own (inr m) k n =
      let later = labels-put l js own m k n in
      chosen (λ ls. IsIn k ls) (label_eq e.label j) (e.rests ++ put_for_label e js) (j ∷ put_for_label e js) (λ t. in-append_left k e.rests (put_for_label e js) n) (inr later)

-- What is proved over a content is proved over each above it.
proves-above : (Q R : Content) → IsContent Q → IsBelow Q R → (rests : List Label) (A : Term) → Proves Q [] rests A → Proves R [] rests A
proves-above Q R q below rests A p =
    (derivable_is_proves R [] rests A).0 (weakening_of_derivable Q R q below (record { hyps = []; pairs = []; prop = A; rests = rests }) ((derivable_is_proves Q [] rests A).1 p))

module _ (Q : Content) (q : IsContent Q) where
  fulfilled-once : (e : Fulfilment) (th : Theorem) → (IsIn e.label th.rests → IsFulfilment e × Serves e Q) → IsDerivable Q th → IsDerivable Q (record th { rests = put_for_label e th.rests })
  fulfilled-once e th serves h = cut_by_proofs Q q th (put_for_label e th.rests) (each_of (λ l. IsIn l (put_for_label e th.rests) ⊎ IsProvedFor Q (put_for_label e th.rests) l) th.rests (λ l m. by l m (label_eq e.label l) refl)) h
    where
      proved : (l : Label) → IsIn l th.rests → label_eq e.label l ≡ true → IsProvedFor Q (put_for_label e th.rests) l
      proved l m own name A n =
          let same = label_eq-same e.label l own in
          let good = serves (rw same m) in
          let whole = proves-above e.content Q good.0.is_content good.1.below e.rests e.statement good.0.proves in
          rw (good.1.states name A (rw same n)) (weaker Q [] [] e.rests (put_for_label e th.rests) e.statement (λ B o. o) (labels-put e l th.rests own m) whole)

      by : (l : Label) → IsIn l th.rests → (b : Bool) → label_eq e.label l ≡ b → IsIn l (put_for_label e th.rests) ⊎ IsProvedFor Q (put_for_label e th.rests) l
      by l m true own = inr (proved l m own)
      by l m false apart = inl (label-stays e l th.rests apart m)

  pub fulfilled_is_derivable : (es : List Fulfilment) (th : Theorem) → AreServing Q es th.rests → IsDerivable Q th → IsDerivable Q (record th { rests = left_after es th.rests })
  fulfilled_is_derivable [] th serving h = h
  fulfilled_is_derivable (e ∷ es) th serving h = fulfilled_is_derivable es (record th { rests = put_for_label e th.rests }) serving.1 (fulfilled-once e th serving.0 h)

  pub all_fulfilled_is_derivable : (es : List Fulfilment) (th : Theorem) → AreServing Q es th.rests → left_after es th.rests ≡ [] → IsDerivable Q th → IsDerivable Q (record th { rests = [] })
  all_fulfilled_is_derivable es th serving none h = along (left_after es th.rests) [] none (fulfilled_is_derivable es th serving h)
    where
      along : (ls ks : List Label) → ls ≡ ks → IsDerivable Q (record th { rests = ls }) → IsDerivable Q (record th { rests = ks })
      along ls ks same d = rw same at d

pub label_of-some : (es : List Fulfilment) (l : Label) → is_label_of es l ≡ true → (f : Fulfilment) × IsIn f es × (f.label ≡ l)
label_of-some [] l t = absurd (cc)
label_of-some (e ∷ es) l t = by (label_eq e.label l) refl (λ later. label_of-some es l later)
  where
    by : (b : Bool) → label_eq e.label l ≡ b → (is_label_of es l ≡ true → (f : Fulfilment) × IsIn f es × (f.label ≡ l)) → (f : Fulfilment) × IsIn f (e ∷ es) × (f.label ≡ l)
    by true own later = (e, inl refl, label_eq-same e.label l own)
    by false apart later = (let found = later (rw apart at t) in (found.0, inr found.1, found.2))

pub each_passes : (test : Label → Bool) (ls : List Label) → list_all test ls ≡ true → Each (λ l. test l ≡ true) ls
each_passes test [] t = tt
each_passes test (l ∷ ls) t = (first_so (test l) (list_all test ls) t, each_passes test ls (second_so (test l) (list_all test ls) t))

-- one of the list, over whose content its statement is derivable alone
abbrev IsJoinedOf : List Fulfilment → Fulfilment → Type 0
IsJoinedOf es e = IsIn e es × IsContent e.content × IsDerivableAlone e.content e.statement

joined-of : (es : List Fulfilment) → AreFulfilments es → Each (IsJoinedOf es) (joined es)
joined-of [] h = tt
joined-of (e ∷ es) h = by (list_all (is_label_of (joined es)) e.rests) refl
    (each_imply (IsJoinedOf es) (IsJoinedOf (e ∷ es)) (joined es) (λ f j. (inr j.0, j.1, j.2)) (joined-of es h.2)) (joined-of es h.2)
  where
    alone : list_all (is_label_of (joined es)) e.rests ≡ true → Each (IsJoinedOf es) (joined es) → IsDerivableAlone e.content e.statement
    alone passes earlier =
        settled_is_derivable e.content h.0.is_content (record { hyps = []; pairs = []; prop = e.statement; rests = e.rests })
        (each_of (IsSettled e.content) e.rests settled) ((derivable_is_proves e.content [] e.rests e.statement).1 h.0.proves)
      where
        settled : (l : Label) → IsIn l e.rests → IsSettled e.content l
        settled l m name A n =
            let found = label_of-some (joined es) l (each_at (λ k. is_label_of (joined es) k ≡ true) e.rests (each_passes (is_label_of (joined es)) e.rests passes) l m) in
            let f = found.0 in
            let before = each_at (IsJoinedOf es) (joined es) earlier f found.1 in
            let serves = h.1 f before.0 (rw found.2 m) in
            rw (serves.states name A (rw found.2 n)) (weakening_of_derivable f.content e.content before.1 serves.below (record { hyps = []; pairs = []; prop = f.statement; rests = [] }) before.2)

    by : (b : Bool) → list_all (is_label_of (joined es)) e.rests ≡ b → Each (IsJoinedOf (e ∷ es)) (joined es) → Each (IsJoinedOf es) (joined es) → Each (IsJoinedOf (e ∷ es)) (cond b (e ∷ joined es) (joined es))
    by true passes later earlier = ((inl refl, h.0.is_content, alone passes earlier), later)
    by false fails later earlier = later

pub joined_are_derivable : (es : List Fulfilment) → AreFulfilments es → Each (λ e. IsDerivableAlone e.content e.statement) (joined es)
joined_are_derivable es h = each_imply (IsJoinedOf es) (λ e. IsDerivableAlone e.content e.statement) (joined es) (λ e j. j.2) (joined-of es h)
