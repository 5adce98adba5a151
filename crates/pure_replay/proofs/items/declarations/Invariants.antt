use Rattle.std.proofs.Common.{◌≡◌, take}
use Rattle.pure_record.specs.Seen.{seen_items}
use Rattle.pure_replay.specs.Contents.{content_of, AreGoodItems}
use Rattle.pure_replay.proofs.items.declarations.Given as goal

-- the declarations are those of the items so far, which make good contents
abbrev pub invariant-loop-place : goal.invariant-loop-place
invariant-loop-place l = (l.declared ≡ (content_of (seen_items (take l.place l.items))).declarations) × AreGoodItems (seen_items (take l.place l.items))
