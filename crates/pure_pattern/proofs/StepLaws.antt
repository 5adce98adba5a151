-- Images put in by renaming make the state that follows.
use Rattle.std.proofs.Common.{◌≡◌, ◌∙◌, ℕ, List, [], ◌∷◌, ◌++◌, map, reverse, ap, refl, sym, subst}
use Rattle.pure_text.specs.Lists.{Each, EachTwo}
use Rattle.pure_definitions.specs.Terms.Term.{Term}
use Rattle.pure_definitions.specs.Terms.Subst.{TermBind, term_image}
use Rattle.pure_definitions.specs.Reduction.Eta.{IsLongForm}
use Rattle.pure_logic.specs.Derivable.{Pair}
use Rattle.pure_pattern_laws.specs.Patterns.{IsPattern, IsPatternPair}
use Rattle.pure_pattern_laws.specs.Treatment.{Sets, IsTreated}
use Rattle.pure_pattern_laws.specs.Steps.{State, IsPut, IsPairPut, IsBindPut, Follows}
use Rattle.pure_pattern_laws.specs.Putting.{put_in}
use Rattle.pure_pattern_laws.specs.Answers.{AreLongOfOneTyp}
use Rattle.pure_pattern_laws.specs.Laws.{IsPatternBind, IsPatternState}
use Rattle.pure_pattern_laws.proofs.PutLaws.{put_in_is_long_form}
use Rattle.pure_pattern_laws.proofs.KeepLaws.{binds-long_map, settings_are_patterns}
use Rattle.pure_pattern_bounds.specs.Put.{pair_put, bind_put, state_put}
use Rattle.pure_pattern.specs.declared.state.Held.{Held}
use Rattle.pure_pattern.specs.Held.{behind}
use Rattle.pure_pattern.proofs.ListLaws.{each-back, first-last}

-- What is put in by renaming is what a step puts in.
is_put : (bs : List TermBind) → Each IsPatternBind bs → (t : Term) → IsLongForm t t → IsPattern t → IsPut bs t (put_in (term_image bs) t)
is_put bs ready t h p = put_in_is_long_form (term_image bs) (binds-long_map bs ready) t h p

pairs_are-put : (bs : List TermBind) → Each IsPatternBind bs → (ps : List Pair) → Each AreLongOfOneTyp ps → Each IsPatternPair ps → EachTwo (IsPairPut bs) ps (map (pair_put (term_image bs)) ps)
pairs_are-put bs ready [] h k = tt
pairs_are-put bs ready (p ∷ ps) h k = ((is_put bs ready p.left h.0.left k.0.0, is_put bs ready p.right h.0.right k.0.1), pairs_are-put bs ready ps h.1 k.1)

binds_are-put : (bs : List TermBind) → Each IsPatternBind bs → (cs : List TermBind) → Each IsPatternBind cs → EachTwo (IsBindPut bs) cs (map (bind_put (term_image bs)) cs)
binds_are-put bs ready [] h = tt
binds_are-put bs ready (c ∷ cs) h = ((refl, is_put bs ready c.image h.0.long h.0.pattern), binds_are-put bs ready cs h.1)

pub set-follows : (index : ℕ) (s : State) (p : Pair) (ps : List Pair) (bs : List TermBind) → s.pairs ≡ p ∷ ps → IsPatternState s → IsTreated index p.left p.right (Sets bs) → Follows index s (state_put bs s)
set-follows index s p ps bs e h treated =
    let long = subst (Each AreLongOfOneTyp) e h.long in
    let patterns = subst (Each IsPatternPair) e h.patterns in
    let ready = settings_are_patterns index p long.0 patterns.0 bs treated in
    Follows.set (map (bind_put (term_image bs)) s.binds) e treated (pairs_are-put bs ready s.pairs h.long h.patterns) (binds_are-put bs ready s.binds h.binds)

-- A state with one more pair.
pub pushed-each : (P : Pair → Type 0) (h : Held) (p : Pair) (ps : List Pair) → ps ≡ h.pairs.items ++ p ∷ [] → Each P (behind p h).pairs → Each P ps
pushed-each P h p ps e k = each-back P ps (subst (Each P) (sym (ap reverse e ∙ first-last h.pairs.items p)) k)
