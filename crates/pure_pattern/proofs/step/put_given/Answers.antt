use Rattle.std.proofs.Common.{◌≡◌, map, sym, subst, ◌∙◌, ap, ◌++◌}
use Rattle.std.specs.Prelude.{Err}
use Rattle.pure_text.specs.Lists.{Each}
use Rattle.pure_text.proofs.ListLaws.{each-append}
use Rattle.pure_definitions.specs.Terms.Subst.{term_image}
use Rattle.pure_pattern_terms.specs.Images.{AreShallow}
use Rattle.pure_pattern_bounds.specs.Put.{pair_put, bind_put}
use Rattle.pure_pattern_rules.specs.Treated.{AreSidesWithin}
use Rattle.pure_pattern.specs.Held.{IsImageWithin, AreMade}
use Rattle.pure_pattern.specs.Followed.{kept}
use Rattle.pure_pattern.proofs.PartLaws.{shallow-images}
use Rattle.pure_pattern.proofs.MadeLaws.{pairs-beyond, binds-beyond}
use Rattle.pure_pattern.proofs.FollowLaws.{kept-each}
use Rattle.pure_pattern.proofs.step.put_given.Goals as goal

pub put_binds-requires-clause-shallow : goal.put_binds-requires-clause-shallow
put_binds-requires-clause-shallow c = subst AreShallow (sym c.deref-3.ensures.value) (shallow-images c.args.new.items c.requires.new)

pub returns-in-Err : goal.returns-in-Err
returns-in-Err c =
    pairs-beyond c.args.maxidx c.args.new.items c.args.held c.in-Err.fault (subst (λ bs. AreMade AreSidesWithin (map (pair_put (term_image bs)) c.args.held.pairs.items) (Err c.in-Err.fault)) c.deref-2.ensures.value c.in-Err.ensures)

pub returns-in-Err-put_binds : goal.returns-in-Err-put_binds
returns-in-Err-put_binds c =
    binds-beyond c.args.maxidx c.args.new.items c.args.held c.in-Err-put_binds.fault
    (subst (λ bs. AreMade IsImageWithin (map (bind_put (term_image bs)) c.args.held.binds.items) (Err c.in-Err-put_binds.fault)) c.deref-3.ensures.value c.in-Err-put_binds.ensures)

pub returns : goal.returns
returns c =
    let pairs = subst (λ bs. (c.in-Ok.pairs.items ≡ map (pair_put (term_image bs)) c.args.held.pairs.items) × Each AreSidesWithin (map (pair_put (term_image bs)) c.args.held.pairs.items)) c.deref-2.ensures.value c.in-Ok.ensures in
    let binds = subst (λ bs. (c.in-Ok-put_binds.binds.items ≡ map (bind_put (term_image bs)) c.args.held.binds.items) × Each IsImageWithin (map (bind_put (term_image bs)) c.args.held.binds.items)) c.deref-3.ensures.value c.in-Ok-put_binds.ensures in
    let entries = c.in_ok-push_all_given.ensures ∙ ap (λ bs. bs ++ kept c.args.maxidx c.args.new.items) binds.0 in record {
      are = pairs.0;
      within = subst (Each AreSidesWithin) (sym pairs.0) pairs.1;
      entries = entries;
      images = subst (Each IsImageWithin) (sym entries) (each-append IsImageWithin (map (bind_put (term_image c.args.new.items)) c.args.held.binds.items) (kept c.args.maxidx c.args.new.items) binds.1 (kept-each IsImageWithin c.args.maxidx c.args.new.items c.requires.new));
    }
