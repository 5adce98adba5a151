-- Lemmas and haves that are of one lemma are of one command.
use Rattle.std.proofs.Common.{◌≡◌, ℕ, ◌+◌, List, ◌∷◌, ◌++◌, length, refl, sym, ◌∙◌, subst, inl, inr}
use Rattle.std.proofs.lemmas.Option.{same_Some}
use Rattle.pure_text.specs.Lists.{IsIn}
use Rattle.pure_text.proofs.ListLaws.{in-append_left}
use Rattle.pure_typ.specs.NameTexts.{HasText}
use Rattle.pure_logic.specs.Content.{TheoryId}
use Rattle.pure_lookup.specs.Meaning.{full_text}
use Rattle.pure_graph.specs.Order.{Loaded}
use Rattle.pure_session_laws.specs.Declare.Notes.{Note, Fork, Forked}
use Rattle.pure_session_laws.specs.Declare.Parts.{Part, Whole, Within, End}
use Rattle.pure_session_laws.specs.Declare.Bound.{IsNamedBy}
use Rattle.pure_session_laws.proofs.Declare.EndLaws.{one_command_of_lemma}
use Rattle.pure_session_laws.specs.Owned.{IsNameIn}
use Rattle.pure_session_laws.specs.Ended.{HasPlainName}
use Rattle.pure_session_laws.specs.Loaded.{IsLoadedSession}
use Rattle.pure_session_laws.proofs.NameLaws.{one-theory}
use Rattle.pure_session_laws.proofs.DeclaredLaws.{HasAdded, parts-add}
use Rattle.pure_session_meaning.specs.Verdicts.{IsTheoryAt}
use Rattle.pure_session_meaning.specs.Statements.{IsFork}
use Rattle.pure_session_meaning.specs.Steps.{command_label}
use Rattle.pure_session_meaning.specs.Laws.{ForksOfOneCommand}
use Rattle.pure_session_meaning.proofs.NoteLaws.{fork-here}
use Rattle.pure_session_meaning.proofs.ForkLaws.{fork-left, left-bound}
use Rattle.pure_session_meaning.proofs.FrontLaws.{runs-compare}
use Rattle.pure_session_meaning.proofs.OwnLaws.{run-own}
use Rattle.pure_session_meaning.proofs.OwnerLaws.{by-name, plain-name}

-- The lemma of what a part binds has a name in the theory.
lemma-named : (texts : List (List ℕ)) (t : TheoryId) (theory : List ℕ) → HasText texts t.name theory → (part : Part) (f : Fork) → IsNamedBy texts theory part f → IsNameIn texts t.name f.lemma
lemma-named texts t theory text (Whole command) f is = absurd is
lemma-named texts t theory text (Within lemma have) f is = record { text = theory; base = lemma; of_theory = text; full = is.1 }
lemma-named texts t theory text (End lemma prop script) f is =
    record { text = theory; base = lemma; of_theory = text; full = subst (λ (n : ℕ). HasText texts n (full_text theory lemma)) (sym is.1) is.0 }

module _ (texts : List (List ℕ)) (theories : List Loaded) (session : IsLoadedSession texts theories) where
  -- The lemma has a name in the theory with the index.
  record IsOfTheory (index : ℕ) (f : Fork) : Type 0 where
    theory : Loaded
    is_at : IsTheoryAt theories index theory
    name : ℕ
    text : HasText texts name theory.name
    plain : HasPlainName texts (record { name = name; index = index })
    named : IsNameIn texts name f.lemma

  of-theory : (index others : ℕ) (f : Fork) → IsFork texts theories index others f → IsOfTheory index f
  of-theory index others f is =
      let left = fork-left texts theories index others f is in
      let bound = left-bound texts theories session index is.notes f left in
      let own = run-own texts theories index left.whole left.before (left.command ∷ left.left) left.run in
      let id : TheoryId = record { name = own.name; index = index } in
      let added : HasAdded texts id left.before left.now =
      parts-add texts left.run.theory.source (command_label index (length left.run.done)) id refl left.amid.passed 0 left.before left.inner left.now own.own left.amid.are in
      let same : bound.own.own ≡ id = same_Some bound.own.own id (sym bound.own.is_own ∙ (added.own ∙ own.own)) in
      let text : HasText texts id.name bound.theory = subst (λ (t : TheoryId). HasText texts t.name bound.theory) same bound.own.text in
      record {
        theory = own.theory;
        is_at = own.is_at;
        name = own.name;
        text = own.text;
        plain = plain-name texts theories session index own.theory own.is_at own.name own.text;
        named = lemma-named texts id bound.theory text left.part f bound.named;
      }

  same-theory : (i j n m : ℕ) (f g : Fork) → IsFork texts theories i n f → IsFork texts theories j m g → f.lemma ≡ g.lemma → i ≡ j
  same-theory i j n m f g h k same =
      let a = of-theory i n f h in
      let b = of-theory j m g k in
      let t : TheoryId = record { name = a.name; index = i } in
      let u : TheoryId = record { name = b.name; index = j } in
      let names : a.name ≡ b.name = one-theory texts session.names t u a.plain b.plain f.lemma a.named (subst (λ (x : ℕ). IsNameIn texts b.name x) (sym same) b.named) in
      by-name texts theories session i j a.theory b.theory a.is_at b.is_at a.name b.name a.text b.text names

  -- Both are of one command.
  abbrev AreOfOne : Fork → Fork → Type 0
  AreOfOne f g = (f.label.theory ≡ g.label.theory) × (f.label.command ≡ g.label.command)

  longer : (e : Fork) (ns ms rest : List Note) → ms ≡ ns ++ rest → IsIn (Forked e) ns → IsIn (Forked e) ms
  longer e ns ms rest is m = subst (λ (l : List Note). IsIn (Forked e) l) (sym is) (in-append_left (Forked e) ns rest m)

  -- Of two runs of one theory the longer has both.
  in-one : (i n m : ℕ) (f g : Fork) → IsFork texts theories i n f → IsFork texts theories i m g → f.lemma ≡ g.lemma → AreOfOne f g
  in-one i n m f g h k same =
      let first : List Note = h.notes ++ Forked f ∷ h.more in
      let second : List Note = k.notes ++ Forked g ∷ k.more in
      let here : IsIn (Forked f) first = fork-here f h.notes h.more in
      let there : IsIn (Forked g) second = fork-here g k.notes k.more in
      elim (runs-compare texts theories session i first second h.now k.now h.left k.left h.run k.run) [
        | inl w ↦ one_command_of_lemma texts k.run.theory.source i 0 k.run.first k.run.done second k.now session.names k.run.declared f g (longer f first second w.0 w.1 here) there same
        | inr w ↦ one_command_of_lemma texts h.run.theory.source i 0 h.run.first h.run.done first h.now session.names h.run.declared f g here (longer g second first w.0 w.1 there) same
      ]

pub forks_of_one_command : ForksOfOneCommand
forks_of_one_command texts theories session f g (i, n, h) (j, m, k) same =
    let one : i ≡ j = same-theory texts theories session i j n m f g h k same in
    in-one texts theories session i n m f g h (subst (λ (x : ℕ). IsFork texts theories x m g) (sym one) k) same
