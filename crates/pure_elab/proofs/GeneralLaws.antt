-- The answer is the text under a most general typing, and typing fails at the first constraint without a solution.
use Rattle.std.proofs.Common.{◌≡◌, ℕ, suc, ◌+◌, List, [], ◌∷◌, ◌++◌, map, take, drop, inl, inr, refl, ap, sym, subst, ◌∙◌, arith}
use Rattle.std.specs.List.{take-map}
use Rattle.pure_text.specs.Lists.{Each}
use Rattle.pure_text.proofs.ListLaws.{each-left, each-right, each_imply}
use Rattle.pure_definitions.specs.Types.Typ.{Typ, TFree, TVar, Con}
use Rattle.pure_definitions.specs.Types.Occurs.{OccursInTyp}
use Rattle.pure_definitions.specs.Terms.Term.{Term, Const, Free, Var, Bound, Abs, App}
use Rattle.pure_definitions.specs.Terms.Typing.{HasType}
use Rattle.pure_definitions.specs.Terms.Subst.{typ_instance, typ_image, inst_typ, KeepsFixedTyps}
use Rattle.pure_term_laws.specs.LawsOccurs.{IsTypVariable}
use Rattle.pure_term_laws.proofs.SubstLaws.{entries-keep_fixed_typs, typ_instance-identity}
use Rattle.pure_term_laws.proofs.OccursLaws.{typ_instances-agree}
use Rattle.pure_term_laws.proofs.MapLaws.{typ_instance-again}
use Rattle.pure_tunify.specs.Settings.{composed}
use Rattle.pure_tunify.specs.declared.pair.TypPair.{TypPair}
use Rattle.pure_tunify.specs.Procedure.{Outcome, Unified, NotTyped, TooBig}
use Rattle.pure_tunify.specs.ProcedureLaws.{IsFirstWithout, IsMeant}
use Rattle.pure_tunify.specs.Unifiers.{IsUnifier, Equates, IsOldPair}
use Rattle.pure_tunify.proofs.MeantLaws.{procedure_is_meant}
use Rattle.pure_grammar.specs.Terms.RawTree.{RawTree}
use Rattle.pure_elab.specs.Vocabulary.{Vocabulary}
use Rattle.pure_elab.specs.Numbered.{fixings}
use Rattle.pure_elab.specs.Drafts.{Constraint, Draft, draft, whole_draft, raw_place, pair_of}
use Rattle.pure_elab.specs.Typings.{IsTyping}
use Rattle.pure_elab.specs.Answers.{IsFixedTyp, IsDraftOf, Comes}
use Rattle.pure_elab.specs.Laws.{AnswerIsMostGeneral, IllTypedAtFirstFailure, BigIsBeyondLimits}
use Rattle.pure_elab.proofs.Lists.{each_from_map, cut_at, take_further}
use Rattle.pure_elab.proofs.DraftLaws.{Solves, draft_is_typed}
use Rattle.pure_elab.proofs.OldLaws.{whole_is_old}

-- One type map after another is one type map, in a term.
pub inst_typ-after : (first second : Typ → Typ) (t : Term) → inst_typ second (inst_typ first t) ≡ inst_typ (λ v. typ_instance second (first v)) t
inst_typ-after first second (Const c T) = ap (Const c) (typ_instance-again first second T)
inst_typ-after first second (Free x T) = ap (Free x) (typ_instance-again first second T)
inst_typ-after first second (Var x i T) = ap (Var x i) (typ_instance-again first second T)
inst_typ-after first second (Bound n) = refl
inst_typ-after first second (Abs T b) = λ l. Abs (typ_instance-again first second T l) (inst_typ-after first second b l)
inst_typ-after first second (App f a) = λ l. App (inst_typ-after first second f l) (inst_typ-after first second a l)

-- A type without schematic variables stays as it is under a map that keeps fixed ones.
pub fixed_stays : (typs : Typ → Typ) (T : Typ) → KeepsFixedTyps typs → IsFixedTyp T → typ_instance typs T ≡ T
fixed_stays typs T keeps h = typ_instances-agree typs (λ v. v) T agree ∙ typ_instance-identity T
  where
    agree : (v : Typ) → IsTypVariable v → OccursInTyp v T → typs v ≡ v
    agree (TFree x s) is o = keeps x s
    agree (TVar x i s) is o = absurd (h x i s o)
    agree (Con k ts) is o = absurd is

-- A solution, and then any map, solves a constraint.
solves_after : (first second : Typ → Typ) (c : Constraint) → Solves first c → Solves (λ v. typ_instance second (first v)) c
solves_after first second c e = sym (typ_instance-again first second c.left) ∙ ap (typ_instance second) e ∙ typ_instance-again first second c.right

-- A whole draft has the type that it has to have, under a solution and then a map, where the type has no schematic variables.
pub whole_is_typed : (V : Vocabulary) (sorts : ℕ → List ℕ) (t : RawTree) (T : Typ) (typs : Typ → Typ) → KeepsFixedTyps typs → IsFixedTyp T
    → Each (Solves typs) (whole_draft V sorts t T).constraints → HasType [] (inst_typ typs (whole_draft V sorts t T).term) T
whole_is_typed V sorts t T typs keeps fixed solves =
    let d = draft V sorts [] t 0 in
    let c : Constraint = record { at = raw_place t; left = d.typ; right = T } in
    let last = each-right (Solves typs) d.constraints (c ∷ []) solves in
    let before = each-left (Solves typs) d.constraints (c ∷ []) solves in
    let typed = draft_is_typed V sorts [] t 0 typs before in
    subst (λ (U : Typ). HasType [] (inst_typ typs d.term) U) (last.0 ∙ fixed_stays typs T keeps fixed) typed

module _ (V : Vocabulary) (t : RawTree) (T : Typ) (fixed : IsFixedTyp T) (d : Draft) (of_text : IsDraftOf V t T d) where
  is_old : Each (IsOldPair 2 0) (map pair_of d.constraints)
  is_old = subst (λ (e : Draft). Each (IsOldPair 2 0) (map pair_of e.constraints)) (sym of_text.is) (whole_is_old V of_text.sorts t T fixed)

  pub outcome_is_meant : (o : Outcome) → Comes V d o → IsMeant V.algebra 2 0 (map pair_of d.constraints) o
  outcome_is_meant o c = procedure_is_meant V.algebra 2 0 (map pair_of d.constraints) o is_old c

  -- the draft under a typing and then a map that keeps fixed type variables
  pub typed_after : (typing more : Typ → Typ) → IsTyping V.algebra d.constraints typing → KeepsFixedTyps more → HasType [] (inst_typ more (inst_typ typing d.term)) T
  typed_after typing more h keeps =
      let both : Typ → Typ = λ v. typ_instance more (typing v) in
      let all = each_from_map pair_of (Equates typing) d.constraints h.equates in
      let solves : Each (Solves both) d.constraints = each_imply (Solves typing) (Solves both) d.constraints (λ c e. solves_after typing more c e) all in
      let kept : KeepsFixedTyps both = λ x s. ap (typ_instance more) (h.substitution.keeps x s) ∙ keeps x s in
      let whole = whole_is_typed V of_text.sorts t T both kept fixed (subst (λ (e : Draft). Each (Solves both) e.constraints) of_text.is solves) in
      let typed = subst (λ (e : Draft). HasType [] (inst_typ both e.term) T) (sym of_text.is) whole in
      subst (λ (u : Term). HasType [] u T) (sym (inst_typ-after typing more d.term)) typed

pub answer_is_most_general : AnswerIsMostGeneral
answer_is_most_general V t T u fixed h =
    let d = h.draft in
    let typing = composed h.typed.sets in
    let general = (outcome_is_meant V t T fixed d h.of_text (Unified h.typed.sets h.typed.next) h.typed.unifies).general in
    let under = inst_typ typing d.term in
    let typed = typed_after V t T fixed d h.of_text typing (typ_image (fixings V.fresh under)) general.unifier (entries-keep_fixed_typs (fixings V.fresh under)) in
    record {
      draft = d;
      of_text = h.of_text;
      typing = typing;
      general = general;
      is = h.typed.is;
      typed = subst (λ (w : Term). HasType [] w T) (sym h.typed.is) typed;
    }

pub ill_typed_at_first_failure : IllTypedAtFirstFailure
ill_typed_at_first_failure V t T at fixed h =
    let d = h.draft in
    let r = h.reason in
    let first : IsFirstWithout V.algebra 2 0 (map pair_of d.constraints) r.number = outcome_is_meant V t T fixed d h.of_text (NotTyped r.number) r.unifies in
    let before = subst (λ (ps : List TypPair). IsUnifier V.algebra ps (composed first.before.sets)) (take-map pair_of r.number d.constraints) first.before.reached.general.unifier in
    record {
      draft = d;
      of_text = h.of_text;
      constraint = r.constraint;
      first = record {
        front = take r.number d.constraints;
        rest = drop (suc r.number) d.constraints;
        stands = cut_at d.constraints r.number r.constraint r.stands;
        typing = composed first.before.sets;
        before = before;
        none = λ typs u. first.none typs (longer typs u);
      };
      place = r.place;
    }
  where
    longer : (typs : Typ → Typ) → IsTyping V.algebra (take h.reason.number h.draft.constraints ++ h.reason.constraint ∷ []) typs → IsUnifier V.algebra (take (h.reason.number + 1) (map pair_of h.draft.constraints)) typs
    longer typs u =
        let number = h.reason.number in
        let d = h.draft in
        let next : number + 1 ≡ suc number = omega arith in
        let same = take_further d.constraints number h.reason.constraint h.reason.stands in
        let mapped = take-map pair_of (suc number) d.constraints ∙ ap (map pair_of) same in
        subst (λ (ps : List TypPair). IsUnifier V.algebra ps typs) (sym (ap (λ n. take n (map pair_of d.constraints)) next ∙ mapped)) u

pub big_is_beyond_limits : BigIsBeyondLimits
big_is_beyond_limits V t T fixed h =
    let d = h.draft in
    record {
      draft = d;
      of_text = h.of_text;
      reason = elim h.reason [
        | inl large ↦ inl (record {
          typing = composed large.sets;
          general = (outcome_is_meant V t T fixed d h.of_text (Unified large.sets large.next) large.unifies).general;
          beyond = large.beyond;
        })
        | inr typing ↦ inr (typing.0, outcome_is_meant V t T fixed d h.of_text (TooBig typing.0) typing.1)
      ];
    }
