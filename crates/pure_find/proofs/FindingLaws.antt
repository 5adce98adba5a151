-- What is found, fact by fact.
use Rattle.std.proofs.Common.{◌≡◌, ◌∙◌, ℕ, List, [], ◌∷◌, ◌++◌, sym, ap, subst, append_assoc, append-nil, Option}
use Rattle.std.specs.Prelude.{Result, Ok, Err, OnOk}
use Rattle.pure_text.proofs.ListLaws.{two-append}
use Rattle.pure_definitions.specs.Terms.Term.{Term}
use Rattle.pure_find.specs.declared.finding.Finding.{Finding}
use Rattle.pure_find.specs.declared.standing.Standing.{Standing}
use Rattle.pure_find.specs.Facts.{Fact, fact}
use Rattle.pure_find.specs.Standings.{IsStanding}
use Rattle.pure_find.specs.Lines.{line_of, lines_of}
use Rattle.pure_find.specs.Answers.{AreStandings}
use Rattle.pure_find.specs.Findings.{IsFinding, IsLongFound, GoesOn}

-- the lines of one fact more
lines-more : (C : Term) (fs : List Fact) (ss : List Standing) (f : Fact) (s : Standing) → AreStandings C fs ss → lines_of (fs ++ f ∷ []) (ss ++ s ∷ []) ≡ lines_of fs ss ++ line_of s f.name
lines-more C [] [] f s h = append-nil (line_of s f.name)
lines-more C [] (r ∷ rs) f s h = absurd h
lines-more C (e ∷ es) [] f s h = absurd h
lines-more C (e ∷ es) (r ∷ rs) f s h = ap (λ l. line_of r e.name ++ l) (lines-more C es rs f s h.1) ∙ sym (append_assoc (line_of r e.name) (lines_of es rs) (line_of s f.name))

one-more : (C : Term) (fs : List Fact) (f : Fact) (s : Standing) (old new : Finding) → IsStanding f.prop C s → new.text.items ≡ old.text.items ++ line_of s f.name → new.standings.items ≡ old.standings.items ++ s ∷ []
    → IsFinding C fs old → IsFinding C (fs ++ f ∷ []) new
one-more C fs f s old new stands text more h = record {
  are = subst (AreStandings C (fs ++ f ∷ [])) (sym more) (two-append (λ (g : Fact) r. IsStanding g.prop C r) fs (f ∷ []) old.standings.items (s ∷ []) h.are (stands, tt));
  text_is = text ∙ (ap (λ l. l ++ line_of s f.name) h.text_is ∙ (sym (lines-more C fs old.standings.items f s h.are) ∙ ap (lines_of (fs ++ f ∷ [])) (sym more)));
}

-- a fact whose standing is put behind the others
pub fact-put : {T E : Type 0} (long : Option Term) (name : List ℕ) (A : Term) (s : Standing) (old new : Finding) → ((C : Term) → IsLongFound C long → IsStanding A C s) → (r : Result T E)
    → OnOk r (new.text.items ≡ old.text.items ++ line_of s name) → OnOk r (new.standings.items ≡ old.standings.items ++ s ∷ []) → OnOk r ((fs : List Fact) → GoesOn long fs (fs ++ fact name A ∷ []) old new)
fact-put long name A s old new stands (Ok x) text more = λ fs C found h. one-more C fs (fact name A) s old new (stands C found) text more h
fact-put long name A s old new stands (Err fault) text more = tt

-- a fact that is stated in other words
pub same-fact : {T E : Type 0} (long : Option Term) (name : List ℕ) (A B : Term) → A ≡ B → (old new : Finding) (r : Result T E) → OnOk r ((fs : List Fact) → GoesOn long fs (fs ++ fact name A ∷ []) old new) → OnOk r ((fs : List Fact) → GoesOn long fs (fs ++ fact name B ∷ []) old new)
same-fact long name A B same old new r h = subst (λ C. OnOk r ((fs : List Fact) → GoesOn long fs (fs ++ fact name C ∷ []) old new)) same h
