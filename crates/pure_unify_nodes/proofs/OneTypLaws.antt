-- Terms of one type, by their abstractions and heads.
use Rattle.std.proofs.Common.{◌≡◌, List, ◌∷◌, sym, ap, ◌∙◌}
use Rattle.pure_definitions.specs.Types.Typ.{Typ, arrow}
use Rattle.pure_definitions.specs.Terms.Term.{Term, Abs}
use Rattle.pure_unify_nodes.specs.OneTyp.{HasNoOther, HaveOneTyp}

pub same_typs : (bs : List Typ) (l r : Term) (T U : Typ) → HasNoOther bs l T → HasNoOther bs r U → T ≡ U → HaveOneTyp bs l r
same_typs bs l r T U h k e V W f g = sym (h V f) ∙ (e ∙ k W g)

abstractions-alike : (bs : List Typ) (V : Typ) (b c : Term) → HaveOneTyp (V ∷ bs) b c → HaveOneTyp bs (Abs V b) (Abs V c)
abstractions-alike bs V b c h T U f g = sym f.2 ∙ (ap (arrow V) (h f.0 g.0 f.1 g.1) ∙ g.2)

pub same_abstractions : (bs : List Typ) (l r : Term) (V W : Typ) (b c : Term) → l ≡ Abs V b → r ≡ Abs W c → V ≡ W → HaveOneTyp (V ∷ bs) b c → HaveOneTyp bs l r
same_abstractions bs l r V W b c e f same h =
    let other : r ≡ Abs V c = f ∙ ap (λ (T : Typ). Abs T c) (sym same) in
    rw (e, other) (abstractions-alike bs V b c h)
