use Rattle.std.proofs.Common.{sym, subst}
use Rattle.pure_tunify.specs.GraphCode.{AreCoupled}
use Rattle.pure_tunify.proofs.GraphClassLaws.{coupled_more}
use Rattle.pure_tunify.proofs.classes.start.Goals as goal

pub returns : goal.returns
returns c = λ v same. record {
  parent = c.in_ok-parent.ensures v;
  shape = c.in_ok-shape.ensures v;
  work = coupled_more v c.new-work.result.items c.push.new.self.items _ c.in_ok-push.ensures.items (subst (AreCoupled v) (sym c.new-work.ensures.items) tt) same;
}
