-- A proof can be run of each lemma that is bound in a session.
use Rattle.std.proofs.Common.{◌≡◌, ℕ, List, [], ◌∷◌, ◌++◌, map, refl, sym, subst, inl, inr}
use Rattle.std.specs.Prelude.{◌≤◌, Bool, count_by}
use Rattle.pure_text.specs.Lists.{IsIn, Each}
use Rattle.pure_text.proofs.ListLaws.{each_at, in_split, in-append_right}
use Rattle.pure_grammar.specs.Theories.TheoryText.{Span, Step, Rule, Erule, Drule, Assumption, Unfold, Prefer, Defer, Close, Done, Have, Command, Class, TypeDecl, Arity, Const, Axiom, Definition, Lemma}
use Rattle.pure_logic.specs.Content.{Content, IsProposition}
use Rattle.pure_lookup.specs.Laws.{IsInSession}
use Rattle.pure_graph.specs.Outcome as graph
use Rattle.pure_graph.specs.Order.{Loaded}
use Rattle.pure_session_laws.specs.Declare.Notes.{Note, Fork}
use Rattle.pure_session_laws.specs.Declare.Commands.{Place}
use Rattle.pure_session_laws.specs.Declare.Parts.{Part, Whole, Within, End}
use Rattle.pure_session_laws.specs.Declare.Fold.{HasParts}
use Rattle.pure_session_laws.specs.Declare.Bound.{IsProvedBy, IsBoundIn}
use Rattle.pure_session_laws.specs.Declare.Tidy.{IsTidy}
use Rattle.pure_session_laws.proofs.Declare.PartLaws.{part_forks_tidy}
use Rattle.pure_session_laws.specs.Well.{IsProofScript, HasProofScript}
use Rattle.pure_session_laws.specs.Method.Outcome as method
use Rattle.pure_session_laws.specs.Method.Outcome.{IsProvable}
use Rattle.pure_session_laws.specs.Loaded.{IsLoadedSession}
use Rattle.pure_session_meaning.specs.Laws.{ForksProvable}
use Rattle.pure_session_meaning.proofs.TextLaws.{theory-well}
use Rattle.pure_session_meaning.proofs.ForkLaws.{IsLeft, fork-left, own_label, left-ordered, left-bound}

-- Both count the same steps.
numbered-same : (s : Step) → graph.is_numbered s ≡ method.is_numbered s
numbered-same (Rule x) = refl
numbered-same (Erule x) = refl
numbered-same (Drule x) = refl
numbered-same Assumption = refl
numbered-same (Unfold xs) = refl
numbered-same (Prefer n) = refl
numbered-same Defer = refl
numbered-same Close = refl
numbered-same Done = refl

-- A part that is a whole command binds nothing.
whole-none : (command : Command) (parts : List Part) → parts ≡ Whole command ∷ [] → (part : Part) → IsIn part parts → (script : List Step) → IsProvedBy part script → ⊥
whole-none command parts e part m script is = elim (subst (λ (ps : List Part). IsIn part ps) e m) [
  | inl same ↦ subst (λ (p : Part). IsProvedBy p script) same is
  | inr none ↦ none
]

have-script : (x : List ℕ) (haves : List Have) → Each (λ (h : Have). IsProofScript h.script) haves → (part : Part) → IsIn part (map (Within x) haves) → (script : List Step) → IsProvedBy part script → IsProofScript script
have-script x [] has part m script is = absurd m
have-script x (h ∷ haves) has part (inl e) script is = subst IsProofScript (sym (subst (λ (p : Part). IsProvedBy p script) e is)) has.0
have-script x (h ∷ haves) has part (inr m) script is = have-script x haves has.1 part m script is

end-script : (x : List ℕ) (span : Span) (own : List Step) → IsProofScript own → (part : Part) → IsIn part (End x span own ∷ []) → (script : List Step) → IsProvedBy part script → IsProofScript script
end-script x span own has part (inl e) script is = subst IsProofScript (sym (subst (λ (p : Part). IsProvedBy p script) e is)) has
end-script x span own has part (inr none) script is = absurd none

-- What a part of a command binds has a proof of the command.
script-of : (P : Place) (command : Command) (parts : List Part) → HasParts P command parts → HasProofScript command → (part : Part) → IsIn part parts → (script : List Step) → IsProvedBy part script → IsProofScript script
script-of P (Lemma x span haves own) parts (inl (stands, e)) has part m script is =
    elim (in_split part (map (Within x) haves) (End x span own ∷ []) (subst (λ (ps : List Part). IsIn part ps) e m)) [
      | inl within ↦ have-script x haves has.0 part within script is
      | inr last ↦ end-script x span own has.1 part last script is
    ]
script-of P (Lemma x span haves own) parts (inr e) has part m script is = absurd (whole-none (Lemma x span haves own) parts e part m script is)
script-of P (Class x above) parts e has part m script is = absurd (whole-none (Class x above) parts e part m script is)
script-of P (TypeDecl x params) parts e has part m script is = absurd (whole-none (TypeDecl x params) parts e part m script is)
script-of P (Arity con domains class) parts e has part m script is = absurd (whole-none (Arity con domains class) parts e part m script is)
script-of P (Const x span) parts e has part m script is = absurd (whole-none (Const x span) parts e part m script is)
script-of P (Axiom x span) parts e has part m script is = absurd (whole-none (Axiom x span) parts e part m script is)
script-of P (Definition x typ text) parts e has part m script is = absurd (whole-none (Definition x typ text) parts e part m script is)

module _ (texts : List (List ℕ)) (theories : List Loaded) (session : IsLoadedSession texts theories) (index : ℕ) (notes : List Note) (f : Fork) (left : IsLeft texts theories index notes f) where
  bound : IsBoundIn texts (own_label texts theories session index notes f left) left.now left.part f
  bound = left-bound texts theories session index notes f left

  script : IsProofScript f.script
  script =
      let there : IsIn left.command left.run.theory.text.commands = subst (λ (cs : List Command). IsIn left.command cs) (sym left.run.commands) (in-append_right left.command left.run.done (left.command ∷ left.left) (inl refl)) in
      let has = each_at HasProofScript left.run.theory.text.commands (theory-well texts theories session index left.run.theory left.run.is_at).scripts left.command there in
      let among : IsIn left.part (left.amid.passed ++ left.part ∷ left.amid.ahead) = in-append_right left.part left.amid.passed (left.part ∷ left.amid.ahead) (inl refl) in
      script-of _ left.command (left.amid.passed ++ left.part ∷ left.amid.ahead) left.amid.has has left.part among f.script bound.proof

  pub left-provable : IsProvable texts f
  left-provable =
      let orderly = (left-ordered texts theories session index notes f left).orderly in
      record {
        in_session = subst (λ (Q : Content). IsInSession texts Q) (sym bound.content_is) orderly.in_session;
        tidy = subst IsTidy (sym bound.content_is) orderly.tidy;
        statement = part_forks_tidy texts left.run.theory.source (own_label texts theories session index notes f left) left.now left.part f left.next left.declares;
        proposition = subst (λ (Q : Content). IsProposition Q f.fixed) (sym bound.content_is) bound.proposition;
        script = script.ends;
        few = subst (λ (is : Step → Bool). count_by is f.script ≤ 1000) (λ l s. numbered-same s l) script.few;
      }

pub forks_provable : ForksProvable
forks_provable texts theories session index others f is = left-provable texts theories session index is.notes f (fork-left texts theories index others f is)
