use Rattle.std.proofs.Common.{◌≡◌, ◌+◌, refl, sym, subst}
use Rattle.pure_definitions.specs.Terms.Term.{term_depth}
use Rattle.pure_pattern_terms.specs.Room.{HaveRoom}
use Rattle.pure_pattern_terms.specs.Images.{application_places}
use Rattle.pure_pattern_terms.proofs.SizeLaws.{body-fits}
use Rattle.pure_pattern_terms.proofs.put.put_body.Goals as goal

pub renamed-requires : goal.renamed-requires
renamed-requires c =
    let fits : HaveRoom (0 + term_depth c.args.body.now) (application_places c.args.t.now) = body-fits c.args.t.now c.args.body.now c.requires.low c.requires.shallow in
    let deep : HaveRoom (0 + term_depth c.in_ok-body.body.value) (application_places c.args.t.now) = subst (λ u. HaveRoom (0 + term_depth u) (application_places c.args.t.now)) (sym c.in_ok-body.ensures) fits in
    let places : c.deref.result.now ≡ application_places c.args.t.now = rw (c.deref.ensures.value, c.in_ok-add_places.ensures, c.new-places.ensures.items) refl in
    record { room = subst (HaveRoom (0 + term_depth c.in_ok-body.body.value)) (sym places) deep }
