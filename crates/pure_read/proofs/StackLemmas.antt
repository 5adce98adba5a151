-- A stack as a list of frames.
use Rattle.std.proofs.Common.{◌≡◌, List, [], ◌∷◌, ◌++◌, refl, ap, ◌∙◌}
use Rattle.pure_grammar.specs.Terms.InnerReader as spec
use Rattle.pure_read.specs.declared.frame.Frame.{Frame}
use Rattle.pure_read.specs.Frames.{seen_frame, stacked}

-- the last frame is the innermost
pub stacked-snoc : (fs : List Frame) (f : Frame) (k : List spec.Frame) → stacked (fs ++ f ∷ []) k ≡ seen_frame f ∷ stacked fs k
stacked-snoc [] f k = refl
stacked-snoc (g ∷ fs) f k = stacked-snoc fs f (seen_frame g ∷ k)

pub stacked-is : (all fs : List Frame) (f : Frame) → all ≡ fs ++ f ∷ [] → stacked all [] ≡ seen_frame f ∷ stacked fs []
stacked-is all fs f e = ap (λ z. stacked z []) e ∙ stacked-snoc fs f []
