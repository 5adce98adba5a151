-- What a lemma's theorem is.
use Rattle.std.proofs.Common.{◌≡◌, ℕ, List, [], refl, sym, ◌∙◌, ap}
use Rattle.pure_text.specs.Lists.{IsIn}
use Rattle.pure_definitions.specs.Names.{Label}
use Rattle.pure_definitions.specs.Terms.Term.{Term, Bound}
use Rattle.pure_definitions.specs.Declarations.Decl.{Decl, PromiseDecl}
use Rattle.pure_logic.specs.Content.{Content, IsContent}
use Rattle.pure_promise_fates.specs.Entries as fates
use Rattle.pure_promise_fates.specs.Entries.{Shown}
use Rattle.pure_promise_fates.proofs.FateLaws.{shown-fault, shown-cancelled}
use Rattle.pure_theory.specs.Certified.{Certified}
use Rattle.pure_promise.specs.declared.entry.Own.{Own}
use Rattle.pure_promise.specs.declared.entry.Own.TheVariants.{Proved, Fault, Cancelled}
use Rattle.pure_promise.specs.Entries.{plain_own}
use Rattle.pure_promise.specs.Seen.{seen_own}

abbrev proof_or : Certified → Own → Certified
proof_or r (Proved s) = s
proof_or r (Fault step fault) = r
proof_or r Cancelled = r

pub one_proof : (own : Own) (r s : Certified) → own ≡ Proved r → own ≡ Proved s → r ≡ s
one_proof own r s a b = ap (proof_or r) (sym a ∙ b)

abbrev labels_of : fates.Own → List Label
labels_of (Shown rests) = rests
labels_of fates.Fault = []
labels_of fates.Cancelled = []

-- a lemma that is shown rests on what its theorem does
pub shown_rests : (own : Own) (labels rests : List Label) → ((r : Certified) → own ≡ Proved r → r.theorem.rests ≡ labels) → plain_own (seen_own own) ≡ Shown rests → labels ≡ rests
shown_rests (Proved r) labels rests h shown = sym (h r refl) ∙ ap labels_of shown
shown_rests (Fault step fault) labels rests h shown = absurd (shown-fault rests (sym shown))
shown_rests Cancelled labels rests h shown = absurd (shown-cancelled rests (sym shown))

abbrev statement_of : Decl → Term
statement_of (PromiseDecl x l A) = A
statement_of _ = Bound 0

-- two promises of one label state the same
pub one_statement : (Q : Content) → IsContent Q → (l : Label) (x y : ℕ) (A B : Term) → IsIn (PromiseDecl x l A) Q.declarations → IsIn (PromiseDecl y l B) Q.declarations → B ≡ A
one_statement Q content l x y A B m n = ap statement_of (content.labelled_once (PromiseDecl y l B) (PromiseDecl x l A) n m refl)
