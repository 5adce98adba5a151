use Rattle.std.proofs.Common.{◌≡◌, ◌++◌, drop}
use Rattle.pure_print.specs.NameText.{more_classes_text}
use Rattle.pure_print.proofs.name.push_more_classes.Given as goal

-- what is written, and the text of the classes that are left
abbrev pub invariant-loop-class : goal.invariant-loop-class
invariant-loop-class l = l.text.items ++ more_classes_text l.names (drop l.class-index l.classes) ≡ l.initial.text.items ++ more_classes_text l.names l.classes
