use Rattle.std.proofs.Common.{◌+◌, ◌++◌, ◌∷◌, [], drop, sym, ◌∙◌, ap, append_assoc}
use Rattle.pure_text.proofs.MergeLaws.{drop_at}
use Rattle.pure_text.proofs.text_list.TextList.push_from.Goals as goal

pub loop-place-preserved : goal.loop-place-preserved
loop-place-preserved c =
    ap (λ zs. zs ++ drop (c.loop-place.place + 1) c.args.other.now) c.in_ok-push.ensures
    ∙ append_assoc c.loop-place.self (c.at.result.now ∷ []) (drop (c.loop-place.place + 1) c.args.other.now)
    ∙ ap (λ zs. c.loop-place.self ++ zs) (sym (drop_at c.args.other.now c.loop-place.place c.at.result.now c.at.ensures))
    ∙ c.loop-place.invariant
