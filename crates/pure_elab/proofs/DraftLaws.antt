-- Under each solution of its constraints a draft has its type.
use Rattle.std.proofs.Common.{◌≡◌, ℕ, zero, suc, ◌+◌, Bool, true, false, List, [], ◌∷◌, ◌++◌, map, Option, Some, None, slice_get, bytes_eq, if◌then◌else◌, refl, ap, subst, arith}
use Rattle.pure_text.proofs.ListLaws.{each-left, each-right}
use Rattle.pure_grammar.specs.declared.token.TokenKind.{TokenKind}
use Rattle.pure_grammar.specs.declared.token.TokenKind.TheVariants as kind
use Rattle.pure_grammar.specs.Terms.RawTree as raw
use Rattle.pure_grammar.specs.Terms.RawTree.{RawTree}
use Rattle.pure_definitions.specs.Types.Typ.{Typ, arrow}
use Rattle.pure_definitions.specs.Terms.Typing.{HasType}
use Rattle.pure_definitions.specs.Terms.Subst.{inst_typ, typ_instance}
use Rattle.pure_tunify.specs.Unifiers.{Equates}
use Rattle.pure_elab.specs.declared.meaning.Meaning.{Meaning}
use Rattle.pure_elab.specs.declared.meaning.Meaning.TheVariants as meaning
use Rattle.pure_elab.specs.Vocabulary.{Vocabulary}
use Rattle.pure_elab.specs.Meant.{outward, bound_place, bound_or, constant_or, fixed_or_unknown, meant}
use Rattle.pure_elab.specs.Drafts.{Constraint, Binder, texts_of, bound_typ, raw_place, leaf_draft, draft, binder_typ, behind_binder, unknown, pair_of}
use Rattle.pure_elab.specs.Laws.{DraftIsTyped}

-- The meaning isn't that of a bound variable.
abbrev pub IsUnbound : Meaning → Type 0
IsUnbound m = (n : ℕ) → m ≡ meaning.Bound n → ⊥

unknown-unbound : IsUnbound meaning.Unknown
unknown-unbound n h = absurd (cc)

fixed-unbound : (o : Option ℕ) → IsUnbound (fixed_or_unknown o)
fixed-unbound None n h = absurd (cc)
fixed-unbound (Some x) n h = absurd (cc)

constant-unbound : (o : Option ℕ) (m : Meaning) → IsUnbound m → IsUnbound (constant_or o m)
constant-unbound None m f n h = f n h
constant-unbound (Some c) m f n h = absurd (cc)

bound_or-place : (o : Option ℕ) (m : Meaning) → IsUnbound m → (n : ℕ) → bound_or o m ≡ meaning.Bound n → o ≡ Some n
bound_or-place None m f n h = absurd (f n h)
bound_or-place (Some k) m f n h = let e : k ≡ n = cc in ap Some e

-- A name that means a bound variable is bound at its place.
pub meant-bound : (V : Vocabulary) (bs : List (List ℕ)) (k : TokenKind) (text : List ℕ) (n : ℕ) → meant V bs k text ≡ meaning.Bound n → bound_place bs text ≡ Some n
meant-bound V bs kind.Ident text n h =
    bound_or-place (bound_place bs text) (constant_or (V.constant_written text) (fixed_or_unknown (V.name_written text)))
    (constant-unbound (V.constant_written text) (fixed_or_unknown (V.name_written text)) (fixed-unbound (V.name_written text))) n h
meant-bound V bs kind.Qualified text n h = absurd (constant-unbound (V.constant_written text) meaning.Unknown unknown-unbound n h)
meant-bound V bs kind.BoundName text n h = bound_or-place (bound_place bs text) meaning.Unknown unknown-unbound n h
meant-bound V bs kind.Schem text n h = absurd (cc)
meant-bound V bs kind.Word text n h = absurd (cc)
meant-bound V bs kind.TypeVar text n h = absurd (cc)
meant-bound V bs kind.Number text n h = absurd (cc)
meant-bound V bs kind.Quote text n h = absurd (cc)
meant-bound V bs kind.Symbol text n h = absurd (cc)
meant-bound V bs kind.End text n h = absurd (cc)

-- The types of binders under a map.
abbrev pub typs_under : (Typ → Typ) → List Binder → List Typ
typs_under typs bs = map (λ b. typ_instance typs b.typ) bs

outward-some : (o : Option ℕ) (n : ℕ) → outward o ≡ Some n → (m : ℕ) × (o ≡ Some m) × (m + 1 ≡ n)
outward-some None n h = absurd (cc)
outward-some (Some m) n h = (m, refl, cc)

at_head : (typs : Typ → Typ) (b : Binder) (rest : List Typ) (place : Option ℕ) (T : Typ) (n : ℕ) (q : Bool)
    → ((m : ℕ) → place ≡ Some m → slice_get rest m ≡ Some (typ_instance typs T))
    → (if q then Some 0 else outward place) ≡ Some n → slice_get (typ_instance typs b.typ ∷ rest) n ≡ Some (typ_instance typs (if q then b.typ else T))
at_head typs b rest place T n true f h =
    let e : zero ≡ n = cc in
    subst (λ (k : ℕ). slice_get (typ_instance typs b.typ ∷ rest) k ≡ Some (typ_instance typs b.typ)) e refl
at_head typs b rest place T n false f h =
    let m = outward-some place n h in
    let e : suc m.0 ≡ n = omega (arith, m.2) in
    subst (λ (k : ℕ). slice_get (typ_instance typs b.typ ∷ rest) k ≡ Some (typ_instance typs T)) e (f m.0 m.1)

-- The innermost binder with a name has its type at its place.
pub bound_at : (typs : Typ → Typ) (bs : List Binder) (text : List ℕ) (n : ℕ) → bound_place (texts_of bs) text ≡ Some n → slice_get (typs_under typs bs) n ≡ Some (typ_instance typs (bound_typ bs text))
bound_at typs [] text n h = absurd (cc)
bound_at typs (b ∷ bs) text n h = at_head typs b (typs_under typs bs) (bound_place (texts_of bs) text) (bound_typ bs text) n (bytes_eq b.text text) (λ m e. bound_at typs bs text m e) h

leaf_typed : (V : Vocabulary) (bs : List Binder) (text : List ℕ) (m : Meaning) (next : ℕ) (typs : Typ → Typ)
    → ((n : ℕ) → m ≡ meaning.Bound n → bound_place (texts_of bs) text ≡ Some n)
    → HasType (typs_under typs bs) (inst_typ typs (leaf_draft V bs text m next).term) (typ_instance typs (leaf_draft V bs text m next).typ)
leaf_typed V bs text (meaning.Constant c) next typs h = refl
leaf_typed V bs text (meaning.Fixed x) next typs h = refl
leaf_typed V bs text (meaning.Bound n) next typs h = bound_at typs bs text n (h n refl)
leaf_typed V bs text meaning.Schematic next typs h = refl
leaf_typed V bs text meaning.Unknown next typs h = refl

-- The map solves the constraint.
abbrev pub Solves : (Typ → Typ) → Constraint → Type 0
Solves typs c = Equates typs (pair_of c)

pub draft_is_typed : DraftIsTyped
draft_is_typed V sorts bs (raw.Leaf at k text) next typs e = leaf_typed V bs text (meant V (texts_of bs) k text) next typs (λ n h. meant-bound V (texts_of bs) k text n h)
draft_is_typed V sorts bs (raw.Abs at x ann body) next typs e =
    let T = binder_typ V sorts ann next in
    let inside = draft_is_typed V sorts (record { text = x; typ = T } ∷ bs) body (behind_binder ann next) typs e in
    (typ_instance typs (draft V sorts (record { text = x; typ = T } ∷ bs) body (behind_binder ann next)).typ, inside, refl)
draft_is_typed V sorts bs (raw.App at f a) next typs e =
    let df = draft V sorts bs f next in
    let da = draft V sorts bs a df.next in
    let c : Constraint = record { at = raw_place a; left = df.typ; right = arrow da.typ (unknown da.next) } in
    let rest = each-right (Solves typs) df.constraints (da.constraints ++ c ∷ []) e in
    let here = each-right (Solves typs) da.constraints (c ∷ []) rest in
    let function = draft_is_typed V sorts bs f next typs (each-left (Solves typs) df.constraints (da.constraints ++ c ∷ []) e) in
    let argument = draft_is_typed V sorts bs a df.next typs (each-left (Solves typs) da.constraints (c ∷ []) rest) in
    (typ_instance typs da.typ, subst (λ (T : Typ). HasType (typs_under typs bs) (inst_typ typs df.term) T) here.0 function, argument)
draft_is_typed V sorts bs (raw.Typed at t ann) next typs e =
    draft_is_typed V sorts bs t next typs (each-left (Solves typs) (draft V sorts bs t next).constraints _ e)
