-- What is joined stays so where each lemma that is shown still is shown by the same proof.
use Rattle.std.proofs.Common.{◌≡◌, List, subst}
use Rattle.pure_text.specs.Lists.{IsIn}
use Rattle.pure_definitions.specs.Names.{Label}
use Rattle.pure_promise_fates.specs.Entries.{Shown, Entry, Became, RestsOn, Reaches, directly, through, AreEntries}
use Rattle.pure_promise_fates.proofs.FateLaws.{became_once}
use Rattle.pure_table.specs.Promise.Joining.{IsJoined}

shown-rests : (rests more : List Label) → Shown rests ≡ Shown more → rests ≡ more
shown-rests rests more e = cc

module _ (es ds : List Entry) (entries : AreEntries ds) (kept : (l : Label) (rests : List Label) → Became es l (Shown rests) → Became ds l (Shown rests)) where
  -- it rests on what it rested on
  rests_on : (l m : Label) → IsJoined es l → RestsOn ds l m → RestsOn es l m
  rests_on l m joined on =
      let now : Became ds l (Shown joined.shown.0) = kept l joined.shown.0 joined.shown.1 in
      let same : on.0 ≡ joined.shown.0 = shown-rests on.0 joined.shown.0 (became_once ds entries.ascend l (Shown on.0) (Shown joined.shown.0) on.1 now) in
      (joined.shown.0, joined.shown.1, subst (IsIn m) same on.2)

  next_joined : (l m : Label) → IsJoined es l → RestsOn es l m → IsJoined es m
  next_joined l m joined on = record { shown = joined.reached m (directly on); reached = λ k r. joined.reached k (through m on r) }

  reached_before : (l k : Label) → IsJoined es l → Reaches ds l k → Reaches es l k
  reached_before l k joined (directly on) = directly (rests_on l k joined on)
  reached_before l k joined (through m on more) = (let before = rests_on l m joined on in through m before (reached_before m k (next_joined l m joined before) more))

  pub stays_joined : (l : Label) → IsJoined es l → IsJoined ds l
  stays_joined l joined = record {
    shown = (joined.shown.0, kept l joined.shown.0 joined.shown.1);
    reached = λ k r. (let shown = joined.reached k (reached_before l k joined r) in (shown.0, kept k shown.0 shown.1));
  }
