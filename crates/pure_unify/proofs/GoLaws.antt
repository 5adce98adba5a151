-- The search can go on.
use Rattle.std.proofs.Common.{◌≡◌, ◌<◌, ◌^◌, List, [], ◌∷◌, sym, subst}
use Rattle.pure_text.specs.Lists.{Each}
use Rattle.pure_definitions.specs.Types.Typ.{Typ, typ_depth}
use Rattle.pure_definitions.specs.Terms.Term.{Term}
use Rattle.pure_definitions.specs.Terms.Typing.{HasType}
use Rattle.pure_unify_definitions.specs.Search.{max_choices}
use Rattle.pure_unify_steps.specs.declared.node.Node.{Node}
use Rattle.pure_unify_steps.specs.Held.{IsNode}
use Rattle.pure_unify_nodes.specs.Long.{IsLongPair}
use Rattle.pure_unify.specs.declared.search.Frame.{Frame}
use Rattle.pure_unify.specs.Images.{HasCountable}
use Rattle.pure_unify.specs.Frames.{images_left, IsReady}

-- An image is taken from a frame.
pub ready_less : (frame more : Frame) (image : Term) → IsReady frame → images_left frame.branch ≡ image ∷ images_left more.branch → more.node ≡ frame.node → more.branch.typ ≡ frame.branch.typ → more.branch.head ≡ frame.branch.head → IsReady more × HasType [] image more.branch.typ
ready_less frame more image h images node typ head =
    let all : Each (λ u. HasType [] u frame.branch.typ) (image ∷ images_left more.branch) = subst (λ (us : List Term). Each (λ u. HasType [] u frame.branch.typ) us) images h.typed.images in
    let own : Each (λ u. HasType [] u more.branch.typ) (image ∷ images_left more.branch) = subst (λ (T : Typ). Each (λ u. HasType [] u T) (image ∷ images_left more.branch)) (sym typ) all in (
      record {
        parent = h.parent;
        held = subst (λ (k : Node). IsNode k h.parent) (sym node) h.held;
        long = subst (λ (k : Node). Each IsLongPair k.pairs.items) (sym node) h.long;
        typed = record {
          countable = record {
            variable = subst (λ (T : Typ). typ_depth T < 2 ^ 32) (sym typ) h.typed.countable.variable;
            head = subst (λ (t : Term). HasCountable t) (sym head) h.typed.countable.head;
          };
          images = own.1;
        };
        few = subst (λ (k : Node). k.path.choices < max_choices) (sym node) h.few;
      },
      own.0,
    )
