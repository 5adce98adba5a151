-- The theorem that unfolds a definition.
use Rattle.std.proofs.Common.{◌≡◌, ℕ, [], sym, subst}
use Rattle.pure_definitions.specs.Types.Typ.{Typ}
use Rattle.pure_definitions.specs.Types.Order.{Algebra}
use Rattle.pure_definitions.specs.Terms.Term.{Term}
use Rattle.pure_definitions.specs.Terms.Typing.{HasType}
use Rattle.pure_definitions.specs.Declarations.Decl.{algebra_of}
use Rattle.pure_definitions.specs.Declarations.Certified.{IsCertified}
use Rattle.pure_logic.specs.Connectives.{eq}
use Rattle.pure_logic.specs.Content.{Content}
use Rattle.pure_logic.specs.Derivable.{Theorem, IsDerivable}
use Rattle.pure_theorem.specs.Facts.{IsTheoryContent}
use Rattle.pure_unfold.specs.Replaced.{IsReplaced, HasReplaced}
use Rattle.pure_unfold.specs.Unfold.{IsDefinition, IsUnfolded}
use Rattle.pure_unfold.proofs.UnfoldLaws.{unfolds-derivable}
use Rattle.pure_conv.specs.UnfoldAnswer.{GivesUnfolded}

pub unfold-gives : (A order : Algebra) (def : Theorem) (name : ℕ) (typ : Typ) (body t u : Term) (T : Typ) → order ≡ A → IsDefinition def.prop name typ body → HasReplaced (IsUnfolded order name typ body) t
    → IsReplaced (IsUnfolded order name typ body) t u → HasType [] t T → (th : Theorem) → th ≡ record def { prop = eq T t u } → GivesUnfolded A def t th
unfold-gives A order def name typ body t u T e definition some each typed th is = record {
  unfolded = u;
  unfolds = record {
    name = name;
    typ = typ;
    body = body;
    definition = definition;
    some = subst (λ (o : Algebra). HasReplaced (IsUnfolded o name typ body) t) e some;
    each = subst (λ (o : Algebra). IsReplaced (IsUnfolded o name typ body) t u) e each;
  };
  typ = T;
  typed = typed;
  is = is;
}

pub unfold-derivable : (Q : Content) → IsTheoryContent Q → (def : Theorem) (t : Term) → def.hyps ≡ [] → def.pairs ≡ [] → IsDerivable Q def → IsCertified Q.declarations t → (th : Theorem) → GivesUnfolded (algebra_of Q.declarations) def t th → IsDerivable Q th
unfold-derivable Q q def t no_hyps no_pairs h certified th gives =
    let alone : IsDerivable Q (record { hyps = []; pairs = []; prop = def.prop; rests = def.rests }) = subst (IsDerivable Q) (λ i. record { hyps = no_hyps i; pairs = no_pairs i; prop = def.prop; rests = def.rests }) h in
    let made = unfolds-derivable Q q.content q.above_pure def.rests gives.typ def.prop t gives.unfolded (record { parts = certified.parts; typed = gives.typed }) alone gives.unfolds in
    let own : IsDerivable Q (record def { prop = eq gives.typ t gives.unfolded }) =
    subst (IsDerivable Q) (λ i. record { hyps = sym no_hyps i; pairs = sym no_pairs i; prop = eq gives.typ t gives.unfolded; rests = def.rests }) made in
    subst (IsDerivable Q) (sym gives.is) own
