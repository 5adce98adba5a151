-- What the call gives where the map's entries are as they are to be.
use Rattle.std.proofs.Common.{List}
use Rattle.pure_definitions.specs.Types.Order.{Algebra}
use Rattle.pure_definitions.specs.Terms.Subst.{TypBind, TermBind, AreSortRespecting, AreTypeRespecting}
use Rattle.pure_logic.specs.Derivable.{Theorem}
use Rattle.pure_logic.specs.Laws.Maps.{instantiated}
use Rattle.pure_theorem.specs.Within.{AreWithin}
use Rattle.pure_inst.specs.Image.{IsImage, AreImagesWithin}
use Rattle.pure_inst.specs.Instance.{GivesInstance}
use Rattle.pure_inst.proofs.ImageLaws.{image-big, image-within}

module _ (A : Algebra) (typs : List TypBind) (terms : List TermBind) (th : Theorem) (sorts : AreSortRespecting A typs) (types : AreTypeRespecting terms) where
  pub given : (new : Theorem) → IsImage (instantiated typs terms) th new → GivesInstance A typs terms th new
  given new image = record { sorts = sorts; types = types; image = image }

  found : ((new : Theorem) × IsImage (instantiated typs terms) th new × ¬ AreWithin new) → (new : Theorem) × GivesInstance A typs terms th new × ¬ AreWithin new
  found (new, image, isnt) = (new, given new image, isnt)

  pub given-big : (¬ AreImagesWithin (instantiated typs terms) th) → (new : Theorem) × GivesInstance A typs terms th new × ¬ AreWithin new
  given-big isnt = found (image-big (instantiated typs terms) th isnt)

  pub given-within : (new : Theorem) → IsImage (instantiated typs terms) th new → AreImagesWithin (instantiated typs terms) th → GivesInstance A typs terms th new × AreWithin new
  given-within new image fits = (given new image, image-within (instantiated typs terms) th new image fits)
