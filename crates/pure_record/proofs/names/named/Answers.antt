use Rattle.std.proofs.Common.{arith}
use Rattle.pure_record.proofs.RiseLemmas.{pairs_ascend}
use Rattle.pure_record.proofs.names.named.Goals as goal

pub of_list-requires : goal.of_list-requires
of_list-requires c = record {
  ascend = λ i j d less within. pairs_ascend c.args.texts i j d c.requires.ascend less within;
  others = c.requires.others;
  few = omega (arith, c.len.ensures);
}
