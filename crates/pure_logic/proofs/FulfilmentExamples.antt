-- Promises that are fulfilled one after another, by example.
use Rattle.std.proofs.Common.{◌≡◌, ◌≢◌, ◌∙◌, ◌+◌, ◌≤◌, arith, sym, ℕ, Bool, true, false, nat_eq, [], ◌∷◌, inl, inr, refl, ap}
use Rattle.std.proofs.lemmas.Bool.{eq-eqb}
use Rattle.pure_text.specs.Lists.{IsIn}
use Rattle.pure_text.proofs.ListLaws.{in-append_left, in_split}
use Rattle.pure_definitions.specs.Types.Typ.{prop}
use Rattle.pure_definitions.specs.Declarations.Decl.{Decl, PromiseDecl}
use Rattle.pure_logic.specs.Content.{Content, IsContent, IsBelow, IsProposition, IsStatement, AreNamedAlike, AreLabelledAlike}
use Rattle.pure_logic.specs.PureContent.{pure_content, pure_declarations, proposition_variable, protect_axiom}
use Rattle.pure_logic.specs.Tree.{Promise, ImpliesIntro}
use Rattle.pure_logic.specs.Derivable.{IsDerivable, IsDerivableAlone}
use Rattle.pure_logic.specs.Proves.{Proves}
use Rattle.pure_logic.specs.Fulfilment.{Fulfilment, IsFulfilment, Serves, AreServing, AreFulfilments, HasLabel, AreInOrder, rests_on, joined}
use Rattle.pure_logic.specs.Examples.Fulfilments.{by_command, trivial, promising, first_fulfilled, second_fulfilled, third_fulfilled, weakened, one_promise, two_promises, trivial_fulfilled, weakened_fulfilled, FulfilledExample, JoinedExample, GrowingExample}
use Rattle.pure_logic.proofs.ChainLaws.{variable_is_proposition, chain_is_derivable}
use Rattle.pure_logic.proofs.ContentLaws.{named_alike, named_alike-so, apart-once, protect_is_statement, pure_is_content}
use Rattle.pure_logic.proofs.AboveLaws.{certified_of-above}
use Rattle.pure_logic.proofs.PropositionLaws.{imp-proposition}
use Rattle.pure_logic.proofs.MapLaws.{identity_respects}
use Rattle.pure_logic.proofs.DerivableLaws.{promise_is_derivable}
use Rattle.pure_logic.proofs.ExampleLaws.{none_passes}
use Rattle.pure_logic.proofs.ProvesLaws.{derivable_is_proves}
use Rattle.pure_logic.proofs.JoinedLaws.{joined_exactly}
use Rattle.pure_logic.proofs.FulfilmentLaws.{all_fulfilled_is_derivable, joined_are_derivable}

-- whether both are promises of one command
abbrev same_command : Decl → Decl → Bool
same_command (PromiseDecl x l A) (PromiseDecl y m B) = nat_eq l.command m.command
same_command _ _ = false

same_command-so : (d e : Decl) → AreLabelledAlike d e → same_command d e ≡ true
same_command-so (PromiseDecl x l A) (PromiseDecl y m B) h = eq-eqb l.command m.command (ap (λ k. k.command) h)
same_command-so _ _ h = absurd h

-- whether it is a promise of the command
abbrev is_promise_of : ℕ → Decl → Bool
is_promise_of n (PromiseDecl x l A) = nat_eq l.command n
is_promise_of n _ = false

pub above : IsBelow pure_content promising
above d m = in-append_left d pure_declarations (PromiseDecl 51 (by_command 1) trivial ∷ PromiseDecl 52 (by_command 2) trivial ∷ PromiseDecl 53 (by_command 3) trivial ∷ PromiseDecl 54 (by_command 4) trivial ∷ []) m

module _ (Q : Content) (above : IsBelow pure_content Q) where
  variable-of : IsProposition Q (proposition_variable 0)
  variable-of = certified_of-above pure_content Q above (proposition_variable 0) prop (variable_is_proposition 0)

  trivial_is_statement : IsStatement Q trivial
  trivial_is_statement = record { proposition = imp-proposition Q above (proposition_variable 0) (proposition_variable 0) variable-of variable-of; schematic = (((tt, ((tt, (tt, tt)), tt)), tt), tt) }

  weakened_is_statement : IsStatement Q weakened
  weakened_is_statement = record {
    proposition = imp-proposition Q above (proposition_variable 0) trivial variable-of trivial_is_statement.proposition;
    schematic = (((tt, ((tt, (tt, tt)), tt)), tt), trivial_is_statement.schematic);
  }

  protect_above : IsStatement Q protect_axiom
  protect_above = record { proposition = certified_of-above pure_content Q above protect_axiom prop protect_is_statement.proposition; schematic = protect_is_statement.schematic }

two_arrows : Unit {0} × ((Unit {0} × (Unit {0} × Unit {0})) × Unit {0})
two_arrows = (tt, ((tt, (tt, tt)), tt))

promising_is_content : IsContent promising
promising_is_content =
    let each = trivial_is_statement promising above in
    record {
      named_once = apart-once AreNamedAlike named_alike named_alike-so promising.declarations refl;
      labelled_once = apart-once AreLabelledAlike same_command same_command-so promising.declarations refl;
      well_formed = (tt, (tt, (((tt, (tt, tt)), (tt, tt)), (two_arrows, (two_arrows, ((tt, (tt, tt)), (protect_above promising above, (each, (each, (each, (each, tt)))))))))));
      coregular = λ a b m. absurd m;
    }

-- The promise's own statement is proved, resting on its label.
promised_is_proved : (name n : ℕ) → IsIn (PromiseDecl name (by_command n) trivial) promising.declarations → Proves promising [] (by_command n ∷ []) trivial
promised_is_proved name n m = (derivable_is_proves promising [] (by_command n ∷ []) trivial).0 (promise_is_derivable promising name (by_command n) trivial m)

first-promised : IsIn (PromiseDecl 51 (by_command 1) trivial) promising.declarations
first-promised = inr (inr (inr (inr (inr (inr (inr (inl refl)))))))

second-promised : IsIn (PromiseDecl 52 (by_command 2) trivial) promising.declarations
second-promised = inr (inr (inr (inr (inr (inr (inr (inr (inl refl))))))))

fourth-promised : IsIn (PromiseDecl 54 (by_command 4) trivial) promising.declarations
fourth-promised = inr (inr (inr (inr (inr (inr (inr (inr (inr (inr (inl refl))))))))))

-- Over contents above that of the fulfilment that promise its statement for its label.
serves : (Q : Content) → IsContent Q → (e : Fulfilment) (name : ℕ) → IsBelow e.content Q → IsIn (PromiseDecl name e.label e.statement) Q.declarations → Serves e Q
serves Q q e name below m = record {
  below = below;
  states = λ other A n. (let same = q.labelled_once (PromiseDecl other e.label A) (PromiseDecl name e.label e.statement) n m refl in cc);
}

first-is : IsFulfilment first_fulfilled
first-is = record { is_content = promising_is_content; proves = (derivable_is_proves promising [] [] trivial).0 (chain_is_derivable promising (proposition_variable 0 ∷ []) (proposition_variable 0) (variable-of promising above, tt) (inl refl)) }

second-is : IsFulfilment second_fulfilled
second-is = record { is_content = promising_is_content; proves = promised_is_proved 51 1 first-promised }

third-is : IsFulfilment third_fulfilled
third-is = record { is_content = promising_is_content; proves = promised_is_proved 54 4 fourth-promised }

pub fulfilled_example : FulfilledExample
fulfilled_example = (promising_is_content, resting, serving, refl, alone, refl, refl)
  where
    resting : IsDerivable promising (record { hyps = []; pairs = []; prop = trivial; rests = by_command 2 ∷ [] })
    resting = promise_is_derivable promising 52 (by_command 2) trivial second-promised

    serving : AreServing promising (second_fulfilled ∷ first_fulfilled ∷ []) (by_command 2 ∷ [])
    serving = (λ m. (second-is, serves promising promising_is_content second_fulfilled 52 (λ d n. n) second-promised), (λ m. (first-is, serves promising promising_is_content first_fulfilled 51 (λ d n. n) first-promised), tt))

    alone : IsDerivableAlone promising trivial
    alone =
        all_fulfilled_is_derivable promising promising_is_content (second_fulfilled ∷ first_fulfilled ∷ []) (record { hyps = []; pairs = []; prop = trivial; rests = by_command 2 ∷ [] }) serving refl resting

not_label : (m n : ℕ) → n + 1 ≤ m → by_command m ≢ by_command n
not_label m n low same = let numbers = ap (λ l. l.command) same in omega arith

in_order : AreInOrder (third_fulfilled ∷ second_fulfilled ∷ first_fulfilled ∷ [])
in_order = (third_new, third_last, (second_new, second_last, ((λ l. l.1), first_last, tt)))
  where
    third_new : ¬ HasLabel (second_fulfilled ∷ first_fulfilled ∷ []) (by_command 3)
    third_new (f, inl e, own) = not_label 3 2 (omega arith) (sym own ∙ ap (λ g. g.label) e)
    third_new (f, inr (inl e), own) = not_label 3 1 (omega arith) (sym own ∙ ap (λ g. g.label) e)
    third_new (f, inr (inr m), own) = m

    second_new : ¬ HasLabel (first_fulfilled ∷ []) (by_command 2)
    second_new (f, inl e, own) = not_label 2 1 (omega arith) (sym own ∙ ap (λ g. g.label) e)
    second_new (f, inr m, own) = m

    third_last : (f : Fulfilment) → IsIn f (third_fulfilled ∷ second_fulfilled ∷ first_fulfilled ∷ []) → ¬ IsIn (by_command 3) f.rests
    third_last f (inl e) m = elim (rw e at m) [ inl same ↦ not_label 4 3 (omega arith) (sym same) | inr n ↦ n ]
    third_last f (inr (inl e)) m = elim (rw e at m) [ inl same ↦ not_label 3 1 (omega arith) same | inr n ↦ n ]
    third_last f (inr (inr (inl e))) m = rw e at m
    third_last f (inr (inr (inr n))) m = n

    second_last : (f : Fulfilment) → IsIn f (second_fulfilled ∷ first_fulfilled ∷ []) → ¬ IsIn (by_command 2) f.rests
    second_last f (inl e) m = elim (rw e at m) [ inl same ↦ not_label 2 1 (omega arith) same | inr n ↦ n ]
    second_last f (inr (inl e)) m = rw e at m
    second_last f (inr (inr n)) m = n

    first_last : (f : Fulfilment) → IsIn f (first_fulfilled ∷ []) → ¬ IsIn (by_command 1) f.rests
    first_last f (inl e) m = rw e at m
    first_last f (inr n) m = n

third_open : ¬ IsIn third_fulfilled (joined (third_fulfilled ∷ second_fulfilled ∷ first_fulfilled ∷ []))
third_open m = not_there ((joined_exactly (third_fulfilled ∷ second_fulfilled ∷ first_fulfilled ∷ []) in_order third_fulfilled (inl refl)).0 m (by_command 4) (rests_on (inl refl)))
  where
    not_there : ¬ HasLabel (third_fulfilled ∷ second_fulfilled ∷ first_fulfilled ∷ []) (by_command 4)
    not_there (f, inl e, own) = not_label 4 3 (omega arith) (sym own ∙ ap (λ g. g.label) e)
    not_there (f, inr (inl e), own) = not_label 4 2 (omega arith) (sym own ∙ ap (λ g. g.label) e)
    not_there (f, inr (inr (inl e)), own) = not_label 4 1 (omega arith) (sym own ∙ ap (λ g. g.label) e)
    not_there (f, inr (inr (inr m)), own) = m

pub joined_example : JoinedExample
joined_example = (fulfilments, in_order, refl, refl, (joined_are_derivable (third_fulfilled ∷ second_fulfilled ∷ first_fulfilled ∷ []) fulfilments).0, third_open)
  where
    earlier : (f : Fulfilment) → IsIn f (first_fulfilled ∷ []) → Serves f promising
    earlier f m = elim m [ inl e ↦ rw e (serves promising promising_is_content first_fulfilled 51 (λ d n. n) first-promised) | inr n ↦ absurd n ]

    fulfilments : AreFulfilments (third_fulfilled ∷ second_fulfilled ∷ first_fulfilled ∷ [])
    fulfilments = (
      third-is,
      (λ f m n. elim m [ inl e ↦ rw e (serves promising promising_is_content second_fulfilled 52 (λ d n. n) second-promised) | inr o ↦ earlier f o ]),
      (second-is, (λ f m n. earlier f m), (first-is, (λ f m n. absurd m), tt)),
    )

above-one : IsBelow pure_content one_promise
above-one d m = in-append_left d pure_declarations (PromiseDecl 51 (by_command 1) trivial ∷ []) m

above-two : IsBelow pure_content two_promises
above-two d m = in-append_left d pure_declarations (PromiseDecl 51 (by_command 1) trivial ∷ PromiseDecl 52 (by_command 2) weakened ∷ []) m

one_is_content : IsContent one_promise
one_is_content = record {
  named_once = apart-once AreNamedAlike named_alike named_alike-so one_promise.declarations refl;
  labelled_once = apart-once AreLabelledAlike same_command same_command-so one_promise.declarations refl;
  well_formed = (tt, (tt, (((tt, (tt, tt)), (tt, tt)), (two_arrows, (two_arrows, ((tt, (tt, tt)), (protect_above one_promise above-one, (trivial_is_statement one_promise above-one, tt))))))));
  coregular = λ a b m. absurd m;
}

two_is_content : IsContent two_promises
two_is_content = record {
  named_once = apart-once AreNamedAlike named_alike named_alike-so two_promises.declarations refl;
  labelled_once = apart-once AreLabelledAlike same_command same_command-so two_promises.declarations refl;
  well_formed = (tt, (tt, (((tt, (tt, tt)), (tt, tt)), (two_arrows, (two_arrows, ((tt, (tt, tt)), (protect_above two_promises above-two, (trivial_is_statement two_promises above-two, (weakened_is_statement two_promises above-two, tt)))))))));
  coregular = λ a b m. absurd m;
}

pub growing_example : GrowingExample
growing_example = (grows-one, grows-two, two_is_content, resting, serving, refl, alone, not_below, other_statement)
  where
    one-promised : IsIn (PromiseDecl 51 (by_command 1) trivial) one_promise.declarations
    one-promised = inr (inr (inr (inr (inr (inr (inr (inl refl)))))))

    both-promised : IsIn (PromiseDecl 51 (by_command 1) trivial) two_promises.declarations × IsIn (PromiseDecl 52 (by_command 2) weakened) two_promises.declarations
    both-promised = (inr (inr (inr (inr (inr (inr (inr (inl refl))))))), inr (inr (inr (inr (inr (inr (inr (inr (inl refl)))))))))

    grows-one : ¬ IsBelow one_promise pure_content
    grows-one below = none_passes (is_promise_of 1) (PromiseDecl 51 (by_command 1) trivial) pure_declarations refl refl (below (PromiseDecl 51 (by_command 1) trivial) one-promised)

    grows-two : ¬ IsBelow two_promises one_promise
    grows-two below = none_passes (is_promise_of 2) (PromiseDecl 52 (by_command 2) weakened) one_promise.declarations refl refl (below (PromiseDecl 52 (by_command 2) weakened) both-promised.1)

    resting : IsDerivable two_promises (record { hyps = []; pairs = []; prop = weakened; rests = by_command 2 ∷ [] })
    resting = promise_is_derivable two_promises 52 (by_command 2) weakened both-promised.1

    trivial_proved : IsFulfilment trivial_fulfilled
    trivial_proved = record {
      is_content = pure_is_content;
      proves = (derivable_is_proves pure_content [] [] trivial).0 (chain_is_derivable pure_content (proposition_variable 0 ∷ []) (proposition_variable 0) (variable_is_proposition 0, tt) (inl refl));
    }

    weakened_proved : IsFulfilment weakened_fulfilled
    weakened_proved = record {
      is_content = one_is_content;
      proves = record {
        tree = ImpliesIntro (proposition_variable 0) (Promise (by_command 1) (λ T. T) (λ t. t));
        concludes = (trivial, (51, trivial, one-promised, identity_respects one_promise, refl), variable-of one_promise above-one, refl);
        from = tt;
        rest_on = (inl refl, tt);
      };
    }

    below-two : IsBelow one_promise two_promises
    below-two d m =
        elim (in_split d pure_declarations (PromiseDecl 51 (by_command 1) trivial ∷ []) m) [
          | inl n ↦ above-two d n
          | inr n ↦ elim n [ inl e ↦ rw e both-promised.0 | inr o ↦ absurd o ]
        ]

    serving : AreServing two_promises (weakened_fulfilled ∷ trivial_fulfilled ∷ []) (by_command 2 ∷ [])
    serving = (
      λ m. (weakened_proved, serves two_promises two_is_content weakened_fulfilled 52 below-two both-promised.1),
      (λ m. (trivial_proved, serves two_promises two_is_content trivial_fulfilled 51 above-two both-promised.0), tt),
    )

    alone : IsDerivableAlone two_promises weakened
    alone = all_fulfilled_is_derivable two_promises two_is_content (weakened_fulfilled ∷ trivial_fulfilled ∷ []) (record { hyps = []; pairs = []; prop = weakened; rests = by_command 2 ∷ [] }) serving refl resting

    not_below : ¬ Serves weakened_fulfilled pure_content
    not_below h = grows-one h.below

    other_statement : ¬ Serves (record trivial_fulfilled { statement = weakened }) one_promise
    other_statement h = let same : trivial ≡ weakened = h.states 51 trivial one-promised in cc
