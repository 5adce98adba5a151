-- Typed parts solve the constraints, and the other way round.
use Rattle.std.proofs.Common.{◌≡◌, ◌∙◌, ℕ, List, [], ◌∷◌, ◌++◌, map, ap, subst}
use Rattle.pure_text.specs.Lists.{Each}
use Rattle.pure_text.proofs.ListLaws.{each-append, each-left, each-right}
use Rattle.pure_grammar.specs.Terms.RawTree as raw
use Rattle.pure_grammar.specs.Terms.RawTree.{RawTree}
use Rattle.pure_definitions.specs.Types.Typ.{Typ, arrow}
use Rattle.pure_definitions.specs.Terms.Term.{Term, App}
use Rattle.pure_definitions.specs.Terms.Typing.{HasType}
use Rattle.pure_definitions.specs.Terms.Subst.{inst_typ, typ_instance}
use Rattle.pure_term_laws.proofs.TypingLaws.{typed-once}
use Rattle.pure_tunify.specs.Unifiers.{IsSubstitution, Equates}
use Rattle.pure_elab.specs.Vocabulary.{Vocabulary}
use Rattle.pure_elab.specs.declared.meaning.Meaning.{Meaning}
use Rattle.pure_elab.specs.declared.meaning.Meaning.TheVariants as meaning
use Rattle.pure_elab.specs.Meant.{meant}
use Rattle.pure_elab.specs.Written.{written_typ}
use Rattle.pure_elab.specs.Drafts.{Constraint, Binder, Draft, texts_of, leaf_draft, draft, whole_draft, raw_place, raw_typ_place, binder_typ, behind_binder, unknown, pair_of}
use Rattle.pure_elab.specs.Typings.{IsTyping}
use Rattle.pure_elab.proofs.Lists.{each_from_map, each_to_map}
use Rattle.pure_elab.proofs.DraftLaws.{Solves, draft_is_typed}
use Rattle.pure_elab_laws.specs.TypedParts.{HasDraftTyp, AreTyped, TypingsSolveConstraints, TypingsOfWholeDrafts}

-- The whole is one of its parts.
whole-typed : (typs : Typ → Typ) (V : Vocabulary) (sorts : ℕ → List ℕ) (bs : List Binder) (t : RawTree) (next : ℕ) → AreTyped typs V sorts bs t next → HasDraftTyp typs bs (draft V sorts bs t next) (draft V sorts bs t next).typ
whole-typed typs V sorts bs (raw.Leaf at k text) next h = h
whole-typed typs V sorts bs (raw.Abs at x ann body) next h = h.0
whole-typed typs V sorts bs (raw.App at f a) next h = h.0
whole-typed typs V sorts bs (raw.Typed at t ann) next h = whole-typed typs V sorts bs t next h.1

-- The type of a function that is applied is that from the argument's type to the application's.
function-typ : (bs : List Typ) (f a : Term) (F A U : Typ) → HasType bs (App f a) U → HasType bs f F → HasType bs a A → F ≡ arrow A U
function-typ bs f a F A U (T, hf, ha) F-is A-is = typed-once bs f F (arrow T U) F-is hf ∙ ap (λ (W : Typ). arrow W U) (typed-once bs a T A ha A-is)

-- A name has no constraints.
leaf-solved : (typs : Typ → Typ) (V : Vocabulary) (bs : List Binder) (text : List ℕ) (m : Meaning) (next : ℕ) → Each (Solves typs) (leaf_draft V bs text m next).constraints
leaf-solved typs V bs text (meaning.Constant c) next = tt
leaf-solved typs V bs text (meaning.Fixed x) next = tt
leaf-solved typs V bs text (meaning.Bound n) next = tt
leaf-solved typs V bs text meaning.Schematic next = tt
leaf-solved typs V bs text meaning.Unknown next = tt

solved : (typs : Typ → Typ) (V : Vocabulary) (sorts : ℕ → List ℕ) (bs : List Binder) (t : RawTree) (next : ℕ) → AreTyped typs V sorts bs t next → Each (Solves typs) (draft V sorts bs t next).constraints
solved typs V sorts bs (raw.Leaf at k text) next h = leaf-solved typs V bs text (meant V (texts_of bs) k text) next
solved typs V sorts bs (raw.Abs at x ann body) next h = solved typs V sorts (record { text = x; typ = binder_typ V sorts ann next } ∷ bs) body (behind_binder ann next) h.1
solved typs V sorts bs (raw.App at f a) next h =
    let df = draft V sorts bs f next in
    let da = draft V sorts bs a df.next in
    let c : Constraint = record { at = raw_place a; left = df.typ; right = arrow da.typ (unknown da.next) } in
    let here : Solves typs c = function-typ (map (λ b. typ_instance typs b.typ) bs) (inst_typ typs df.term) (inst_typ typs da.term) (typ_instance typs df.typ) (typ_instance typs da.typ) (typ_instance typs (unknown da.next))
    h.0 (whole-typed typs V sorts bs f next h.1) (whole-typed typs V sorts bs a df.next h.2) in
    each-append (Solves typs) df.constraints (da.constraints ++ c ∷ []) (solved typs V sorts bs f next h.1)
    (each-append (Solves typs) da.constraints (c ∷ []) (solved typs V sorts bs a df.next h.2) (here, tt))
solved typs V sorts bs (raw.Typed at t ann) next h =
    let d = draft V sorts bs t next in
    let c : Constraint = record { at = raw_typ_place ann; left = d.typ; right = written_typ V sorts ann } in
    let here : Solves typs c = typed-once (map (λ b. typ_instance typs b.typ) bs) (inst_typ typs d.term) (typ_instance typs d.typ) (typ_instance typs (written_typ V sorts ann)) (whole-typed typs V sorts bs t next h.1) h.0 in
    each-append (Solves typs) d.constraints (c ∷ []) (solved typs V sorts bs t next h.1) (here, tt)

typed : (typs : Typ → Typ) (V : Vocabulary) (sorts : ℕ → List ℕ) (bs : List Binder) (t : RawTree) (next : ℕ) → Each (Solves typs) (draft V sorts bs t next).constraints → AreTyped typs V sorts bs t next
typed typs V sorts bs (raw.Leaf at k text) next e = draft_is_typed V sorts bs (raw.Leaf at k text) next typs e
typed typs V sorts bs (raw.Abs at x ann body) next e = (draft_is_typed V sorts bs (raw.Abs at x ann body) next typs e, typed typs V sorts (record { text = x; typ = binder_typ V sorts ann next } ∷ bs) body (behind_binder ann next) e)
typed typs V sorts bs (raw.App at f a) next e =
    let df = draft V sorts bs f next in
    let da = draft V sorts bs a df.next in
    let c : Constraint = record { at = raw_place a; left = df.typ; right = arrow da.typ (unknown da.next) } in
    let rest = each-right (Solves typs) df.constraints (da.constraints ++ c ∷ []) e in (
      draft_is_typed V sorts bs (raw.App at f a) next typs e,
      typed typs V sorts bs f next (each-left (Solves typs) df.constraints (da.constraints ++ c ∷ []) e),
      typed typs V sorts bs a df.next (each-left (Solves typs) da.constraints (c ∷ []) rest),
    )
typed typs V sorts bs (raw.Typed at t ann) next e =
    let d = draft V sorts bs t next in
    let c : Constraint = record { at = raw_typ_place ann; left = d.typ; right = written_typ V sorts ann } in
    let before = each-left (Solves typs) d.constraints (c ∷ []) e in
    let last = each-right (Solves typs) d.constraints (c ∷ []) e in (
      subst (λ (U : Typ). HasType (map (λ b. typ_instance typs b.typ) bs) (inst_typ typs d.term) U) last.0 (draft_is_typed V sorts bs t next typs before),
      typed typs V sorts bs t next before,
    )

pub solve-constraints : TypingsSolveConstraints
solve-constraints typs V sorts bs t next = (solved typs V sorts bs t next, typed typs V sorts bs t next)

pub whole-drafts : TypingsOfWholeDrafts
whole-drafts typs V sorts t T = (there, back)
  where
    d : Draft
    d = draft V sorts [] t 0

    last : Constraint
    last = record { at = raw_place t; left = d.typ; right = T }

    there : IsTyping V.algebra (whole_draft V sorts t T).constraints typs → IsSubstitution V.algebra typs × AreTyped typs V sorts [] t 0 × HasDraftTyp typs [] d T
    there u =
        let all = each_from_map pair_of (Equates typs) (d.constraints ++ last ∷ []) u.equates in
        let before = each-left (Solves typs) d.constraints (last ∷ []) all in
        let here = each-right (Solves typs) d.constraints (last ∷ []) all in
        (u.substitution, typed typs V sorts [] t 0 before, subst (λ (U : Typ). HasType [] (inst_typ typs d.term) U) here.0 (draft_is_typed V sorts [] t 0 typs before))

    back : IsSubstitution V.algebra typs × AreTyped typs V sorts [] t 0 × HasDraftTyp typs [] d T → IsTyping V.algebra (whole_draft V sorts t T).constraints typs
    back h =
        let here : Solves typs last = typed-once [] (inst_typ typs d.term) (typ_instance typs d.typ) (typ_instance typs T) (whole-typed typs V sorts [] t 0 h.1) h.2 in
        let all = each-append (Solves typs) d.constraints (last ∷ []) (solved typs V sorts [] t 0 h.1) (here, tt) in
        record { substitution = h.0; equates = each_to_map pair_of (Equates typs) (d.constraints ++ last ∷ []) all }
