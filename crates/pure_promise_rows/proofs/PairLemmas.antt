-- A theorem under one pair more.
use Rattle.std.proofs.Common.{◌∷◌, refl}
use Rattle.pure_text.specs.Lists.{IsIn}
use Rattle.pure_definitions.specs.Types.Typ.{prop}
use Rattle.pure_logic.specs.Connectives.{imp, eq}
use Rattle.pure_logic.specs.Content.{Content, IsProposition}
use Rattle.pure_logic.specs.Derivable.{Pair, Theorem, IsDerivable}
use Rattle.pure_logic.specs.Tree.{ImpliesIntro, hyps_of}
use Rattle.pure_logic.proofs.DischargeLaws.{each-without}

-- what is derivable is so under a pair of propositions
pub under_pair : (Q : Content) (th : Theorem) (p : Pair) → IsDerivable Q th → IsProposition Q (eq prop p.left p.right) → IsProposition Q p.left → IsDerivable Q (record th { pairs = p ∷ th.pairs })
under_pair Q th p h equation left = record {
  tree = ImpliesIntro (eq prop p.left p.right) h.tree;
  conclusion = imp (eq prop p.left p.right) h.conclusion;
  concludes = (h.conclusion, h.concludes, equation, refl);
  under_pairs = (prop, h.conclusion, left.typed, h.under_pairs, refl);
  hyps = each-without (λ A. IsIn A th.hyps) (eq prop p.left p.right) (hyps_of h.tree) h.hyps;
  rests = h.rests;
}
