-- When a draft is typed: by the rules of typing alone, at each part of the written term.
use Rattle.std.specs.Prelude.{◌↔◌, ℕ, List, [], ◌∷◌, map}
use Rattle.pure_text.specs.Lists.{Each}
use Rattle.pure_grammar.specs.Terms.RawTree as raw
use Rattle.pure_grammar.specs.Terms.RawTree.{RawTree}
use Rattle.pure_definitions.specs.Types.Typ.{Typ}
use Rattle.pure_definitions.specs.Terms.Typing.{HasType}
use Rattle.pure_definitions.specs.Terms.Subst.{inst_typ, typ_instance}
use Rattle.pure_tunify.specs.Unifiers.{IsSubstitution, Equates}
use Rattle.pure_elab.specs.Vocabulary.{Vocabulary}
use Rattle.pure_elab.specs.Written.{written_typ}
use Rattle.pure_elab.specs.Drafts.{Binder, Draft, draft, whole_draft, binder_typ, behind_binder, pair_of}
use Rattle.pure_elab.specs.Typings.{IsTyping}

-- The draft has this type under binders, once the map has replaced the unknowns in all three.
abbrev pub HasDraftTyp : (Typ → Typ) → List Binder → Draft → Typ → Type 0
HasDraftTyp typs binders d T = HasType (map (λ b. typ_instance typs b.typ) binders) (inst_typ typs d.term) (typ_instance typs T)

-- By this map each part of the written term has the type of its draft, and a part with a written type has that one.
abbrev pub AreTyped : (Typ → Typ) → Vocabulary → (sorts : ℕ → List ℕ) → List Binder → RawTree → (next : ℕ) → Type 0
AreTyped typs V sorts binders (raw.Leaf at kind text) next =
    let d = draft V sorts binders (raw.Leaf at kind text) next in
    HasDraftTyp typs binders d d.typ
AreTyped typs V sorts binders (raw.Abs at var typ body) next =
    let d = draft V sorts binders (raw.Abs at var typ body) next in
    let binder : Binder = record { text = var; typ = binder_typ V sorts typ next } in
    HasDraftTyp typs binders d d.typ × AreTyped typs V sorts (binder ∷ binders) body (behind_binder typ next)
AreTyped typs V sorts binders (raw.App at fun arg) next =
    let d = draft V sorts binders (raw.App at fun arg) next in
    let f = draft V sorts binders fun next in
    HasDraftTyp typs binders d d.typ × AreTyped typs V sorts binders fun next × AreTyped typs V sorts binders arg f.next
AreTyped typs V sorts binders (raw.Typed at term typ) next =
    let d = draft V sorts binders term next in
    HasDraftTyp typs binders d (written_typ V sorts typ) × AreTyped typs V sorts binders term next

-- A map types all parts of a written term exactly where it solves the constraints of its draft.
abbrev pub TypingsSolveConstraints : Type 0
TypingsSolveConstraints = (typs : Typ → Typ) (V : Vocabulary) (sorts : ℕ → List ℕ) (binders : List Binder) (t : RawTree) (next : ℕ)
    → AreTyped typs V sorts binders t next ↔ Each (λ c. Equates typs (pair_of c)) (draft V sorts binders t next).constraints

-- A typing of a whole term that has to have a type is a substitution by which all its parts are typed, and the whole has that type.
abbrev pub TypingsOfWholeDrafts : Type 0
TypingsOfWholeDrafts = (typs : Typ → Typ) (V : Vocabulary) (sorts : ℕ → List ℕ) (t : RawTree) (T : Typ)
    → IsTyping V.algebra (whole_draft V sorts t T).constraints typs ↔ (IsSubstitution V.algebra typs × AreTyped typs V sorts [] t 0 × HasDraftTyp typs [] (draft V sorts [] t 0) T)
