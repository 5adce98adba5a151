-- The places and states of the reader, as contracts see them.
use Rattle.std.specs.Prelude.{Option, Some, None}
use Rattle.pure_grammar.specs.Terms.InnerReader as spec
use Rattle.pure_read.specs.Seen.{seen_one}
use Rattle.pure_read.specs.Frames.{seen_quantifier, seen_stack}
use Rattle.pure_read.specs.declared.state.Place.{Place}
use Rattle.pure_read.specs.declared.state.Place.TheVariants.{AtTerm, AtCon, AfterAtom, AtImplies, AtBinder, AfterFirstVar, AfterBinder, AtBinderVar, AfterBinderVar, AtType, AfterVariable, AtSort, AtFirstClass, AfterClass, AtNextClass, AfterPost, AtConstructor, AtArrow}
use Rattle.pure_read.specs.declared.state.State.{State}
use Rattle.pure_read.specs.declared.state.State.TheVariants.{In, DoneTerm, DoneType}

abbrev pub seen_place : Place → spec.Place
seen_place AtTerm = spec.AtTerm
seen_place AtCon = spec.AtCon
seen_place (AfterAtom at app) = spec.AfterAtom at app.value
seen_place AtImplies = spec.AtImplies
seen_place (AtBinder q at) = spec.AtBinder (seen_quantifier q) at
seen_place (AfterFirstVar b) = spec.AfterFirstVar (seen_quantifier b.quantifier) b.at b.binder b.var
seen_place (AfterBinder q) = spec.AfterBinder (seen_quantifier q)
seen_place (AtBinderVar q at b) = spec.AtBinderVar (seen_quantifier q) at b
seen_place (AfterBinderVar b) = spec.AfterBinderVar (seen_quantifier b.quantifier) b.at b.binder b.var
seen_place AtType = spec.AtType
seen_place (AfterVariable v) = spec.AfterVariable (seen_one v)
seen_place (AtSort v) = spec.AtSort (seen_one v)
seen_place (AtFirstClass v) = spec.AtFirstClass (seen_one v)
seen_place (AfterClass v cs) = spec.AfterClass (seen_one v) cs.items
seen_place (AtNextClass v cs) = spec.AtNextClass (seen_one v) cs.items
seen_place (AfterPost at t) = spec.AfterPost at t
seen_place (AtConstructor at ts) = spec.AtConstructor at ts.items
seen_place AtArrow = spec.AtArrow

abbrev pub seen_state : State → spec.State
seen_state (In place stack) = spec.In (seen_place place) (seen_stack stack)
seen_state (DoneTerm t) = spec.DoneTerm t.value
seen_state (DoneType t) = spec.DoneType t

abbrev pub seen_next : Option State → Option spec.State
seen_next None = None
seen_next (Some state) = Some (seen_state state)
