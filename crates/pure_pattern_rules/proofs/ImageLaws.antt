-- The images of treatments are typed and beta-normal.
use Rattle.std.proofs.Common.{ℕ, List, length}
use Rattle.pure_definitions.specs.Types.Typ.{Typ}
use Rattle.pure_definitions.specs.Terms.Term.{Term, Const, Free, Var, Bound, Abs, App}
use Rattle.pure_definitions.specs.Reduction.Beta.{IsBetaNormal}
use Rattle.pure_unify_definitions.specs.Fronts.{domains}
use Rattle.pure_unify_definitions.specs.Children.{image_of}
use Rattle.pure_pattern_laws.specs.Places.{agreeing, shared_left, shared_right}
use Rattle.pure_pattern_laws.specs.Treatment.{own_bounds, agreeing_image, left_image, right_image}
use Rattle.pure_pattern_laws.proofs.ListLaws.{numbers}
use Rattle.pure_pattern_laws.proofs.LowLaws.{agreeing-bounds, left-bounds, right-bounds}
use Rattle.pure_pattern_laws.proofs.SomeLaws.{selection-normal, image-normal}
use Rattle.pure_pattern_rules.specs.Parts.{IsRigidHead}

pub agreeing_normal : (index : ℕ) (T : Typ) (zs ws : List ℕ) → IsBetaNormal (agreeing_image index T zs ws)
agreeing_normal index T zs ws = selection-normal index T (agreeing zs ws (domains T)) (agreeing zs ws (own_bounds T)) (agreeing zs ws (numbers (length (domains T)))) (agreeing-bounds T zs ws)

pub left_normal : (index : ℕ) (T : Typ) (zs ws : List ℕ) → IsBetaNormal (left_image index T zs ws)
left_normal index T zs ws = selection-normal index T (shared_left zs ws (domains T)) (shared_left zs ws (own_bounds T)) (shared_left zs ws (numbers (length (domains T)))) (left-bounds T zs ws)

pub right_normal : (index : ℕ) (U : Typ) (zs ws : List ℕ) → IsBetaNormal (right_image index U zs ws)
right_normal index U zs ws = selection-normal index U (shared_right zs ws (domains U)) (shared_right zs ws (own_bounds U)) (shared_right zs ws (numbers (length (domains U)))) (right-bounds U zs ws)

pub imitation_normal : (index : ℕ) (Ts : List Typ) (h : Term) (Us : List Typ) → IsRigidHead h → IsBetaNormal (image_of index Ts h Us)
imitation_normal index Ts (Const c T) Us k = image-normal index Ts (Const c T) Us tt
imitation_normal index Ts (Free x T) Us k = image-normal index Ts (Free x T) Us tt
imitation_normal index Ts (Bound p) Us k = image-normal index Ts (Bound p) Us tt
imitation_normal index Ts (Var x i T) Us k = absurd k
imitation_normal index Ts (Abs T b) Us k = absurd k
imitation_normal index Ts (App f a) Us k = absurd k
