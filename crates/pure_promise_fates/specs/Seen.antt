-- How a fate is seen.
use Rattle.pure_promise_fates.specs.declared.fate.Fate as code
use Rattle.pure_promise_fates.specs.declared.fate.Fate.TheVariants as variants
use Rattle.pure_promise_fates.specs.Entries.{Fate, Proved, Failed, Tainted, Gone, Unsettled}

-- the fate that the code tells
abbrev pub seen_fate : code.Fate → Fate
seen_fate variants.Proved = Proved
seen_fate variants.Failed = Failed
seen_fate (variants.Tainted faults) = Tainted faults.items
seen_fate variants.Gone = Gone
seen_fate variants.Unsettled = Unsettled
