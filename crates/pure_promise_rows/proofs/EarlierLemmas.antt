-- Promises of earlier places.
use Rattle.std.proofs.Common.{◌≡◌, ◌+◌, ℕ, List, [], ◌∷◌, ◌++◌, inl, inr, ap, sym, ◌∙◌, arith}
use Rattle.pure_text.proofs.ListLaws.{in_split}
use Rattle.pure_definitions.specs.Names.{Label}
use Rattle.pure_definitions.specs.Terms.Term.{Term}
use Rattle.pure_definitions.specs.Declarations.Decl.{Decl, PromiseDecl}
use Rattle.pure_theory.specs.Refusals.{IsLabelAbove}
use Rattle.pure_promise_rows.specs.Earlier.{AreEarlier}

label_of : Decl → Label
label_of (PromiseDecl x l A) = l
label_of _ = record { theory = 0; command = 0; part = 0 }

-- one promise more
pub next_earlier : (place : ℕ) (ds : List Decl) (x : ℕ) (l : Label) (A : Term) → l.theory ≡ 1 → l.command ≡ place → AreEarlier place ds → AreEarlier (place + 1) (ds ++ PromiseDecl x l A ∷ [])
unfolding label_of
next_earlier place ds x l A theory command before y k B m = elim (in_split (PromiseDecl y k B) ds (PromiseDecl x l A ∷ []) m) [
  | inl old ↦ (let w = before y k B old in (w.0, omega (arith, w.1)))
  | inr n ↦ elim n [
    | inl e ↦
        let same : k ≡ l = ap label_of e in
        rw same (theory, omega (arith, command))
    | inr none ↦ absurd none
  ]
]

-- a label above those of earlier places
pub above_earlier : (place : ℕ) (ds : List Decl) (l : Label) → l.theory ≡ 1 → l.command ≡ place → AreEarlier place ds → IsLabelAbove ds l
above_earlier place ds l theory command before x k A m = (let w = before x k A m in inr (w.0 ∙ sym theory, inl (omega (arith, command, w.1))))
