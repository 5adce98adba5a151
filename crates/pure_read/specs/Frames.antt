-- What stands open, as contracts see it.
use Rattle.std.specs.Prelude.{List, [], ◌∷◌}
use Rattle.pure_grammar.specs.Terms.InnerReader as spec
use Rattle.pure_read.specs.declared.frame.Quantifier.{Quantifier}
use Rattle.pure_read.specs.declared.frame.Quantifier.TheVariants as quantifier
use Rattle.pure_read.specs.declared.frame.Join.{Join}
use Rattle.pure_read.specs.declared.frame.Join.TheVariants.{LambdaBody, RightSide, Conclusion, AllBody}
use Rattle.pure_read.specs.declared.frame.TermOpen.{TermOpen}
use Rattle.pure_read.specs.declared.frame.TermOpen.TheVariants.{FirstPremise, NextPremise, Enclosed, Argument}
use Rattle.pure_read.specs.declared.frame.TypeOpen.{TypeOpen}
use Rattle.pure_read.specs.declared.frame.TypeOpen.TheVariants.{Constraint, BinderType, OnlyBinderType, FirstDomain, NextDomain, EnclosedType, MoreArguments}
use Rattle.pure_read.specs.declared.frame.Frame.{Frame}
use Rattle.pure_read.specs.declared.frame.Frame.TheVariants.{Joined, InTerm, Range, InType}
use Rattle.pure_read.specs.declared.frame.Stack.{Stack}
use Rattle.pure_read.specs.declared.frame.Popped.{Popped}
use Rattle.pure_read.specs.declared.frame.Popped.TheVariants.{Nothing, Open}

abbrev pub seen_quantifier : Quantifier → spec.Quantifier
seen_quantifier quantifier.All = spec.OfAll
seen_quantifier quantifier.Lambda = spec.OfLambda

abbrev pub seen_join : Join → spec.Join
seen_join (LambdaBody at x T) = spec.LambdaBody at x T
seen_join (RightSide at left) = spec.RightSide at left.value
seen_join (Conclusion at a) = spec.Conclusion at a.value
seen_join (AllBody at b x T) = spec.AllBody at b x T

abbrev pub seen_term_open : TermOpen → spec.TermOpen
seen_term_open (FirstPremise at) = spec.FirstPremise at
seen_term_open NextPremise = spec.NextPremise
seen_term_open (Enclosed at) = spec.Enclosed at
seen_term_open (Argument at f) = spec.Argument at f.value

abbrev pub seen_type_open : TypeOpen → spec.TypeOpen
seen_type_open (Constraint at t) = spec.Constraint at t.value
seen_type_open (BinderType b) = spec.BinderType (seen_quantifier b.quantifier) b.at b.binder b.var
seen_type_open (OnlyBinderType b) = spec.OnlyBinderType (seen_quantifier b.quantifier) b.at b.binder b.var
seen_type_open (FirstDomain at) = spec.FirstDomain at
seen_type_open NextDomain = spec.NextDomain
seen_type_open (EnclosedType at) = spec.EnclosedType at
seen_type_open (MoreArguments at ts) = spec.MoreArguments at ts.items

abbrev pub seen_frame : Frame → spec.Frame
seen_frame (Joined join) = spec.Joined (seen_join join)
seen_frame (InTerm around) = spec.InTerm (seen_term_open around)
seen_frame (Range at domain) = spec.Range at domain
seen_frame (InType around) = spec.InType (seen_type_open around)

-- the frames of a list, the last one first, on top of others
abbrev pub stacked : List Frame → List spec.Frame → List spec.Frame
stacked [] k = k
stacked (f ∷ fs) k = stacked fs (seen_frame f ∷ k)

abbrev pub seen_stack : Stack → List spec.Frame
seen_stack s = stacked s.frames.items []

abbrev pub seen_popped : Popped → List spec.Frame
seen_popped Nothing = []
seen_popped (Open frame below) = seen_frame frame ∷ seen_stack below
