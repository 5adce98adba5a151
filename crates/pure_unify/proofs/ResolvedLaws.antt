-- What is resolved of settings, one after the other from the last one on.
use Rattle.std.proofs.Common.{◌≡◌, ℕ, ◌+◌, ◌-◌, ◌<◌, ◌≤◌, List, [], ◌∷◌, ◌++◌, map, length, get_or, take, drop, refl, ap, sym, subst, ◌∙◌, arith}
use Rattle.std.specs.Prelude.{reverse, Err}
use Rattle.std.proofs.lemmas.List.{reverse-append, reverse-reverse, take_rest}
use Rattle.pure_text.specs.Lists.{Each}
use Rattle.pure_text.proofs.ListLaws.{each-append, each-left}
use Rattle.pure_definitions.specs.Terms.Term.{IsWithin}
use Rattle.pure_definitions.specs.Terms.Limits.{IsWithinTyp}
use Rattle.pure_definitions.specs.Terms.Subst.{TypBind, TermBind, IsTypMap, typ_image, typ_instance}
use Rattle.pure_term_laws.proofs.SubstLaws.{typ_instance-identity}
use Rattle.pure_typ.specs.declared.grow.Grow.{Grow}
use Rattle.pure_typ.specs.declared.grow.Grow.TheVariants.{Big, Memory}
use Rattle.pure_unify_definitions.specs.Node as node
use Rattle.pure_unify_definitions.specs.Search.{AreImagesWithin, unifier_of}
use Rattle.pure_unify_steps.specs.declared.node.Setting.{Setting}
use Rattle.pure_unify_steps.specs.declared.node.Setting.TheVariants.{OfTyps, OfTerm}
use Rattle.pure_unify_steps.specs.declared.node.Node.{Node}
use Rattle.pure_unify_steps.specs.Held.{IsNode}
use Rattle.pure_unify.specs.declared.resolve.Later.{Later}
use Rattle.pure_unify.specs.declared.unifier.Unifier.{Unifier}
use Rattle.pure_unify.specs.Unified.{seen}
use Rattle.pure_unify.specs.Later.{term_later, typ_entry, term_entry, entry_under, typ_entries, term_entries, IsDistinct, AreEntriesWithin}
use Rattle.pure_unify.specs.Resolved.{IsLater, IsLaterAnswer, IsBigFor, IsUnifierAnswer}
use Rattle.pure_unify.proofs.ListLaws.{map-same}
use Rattle.pure_unify.proofs.ResolveLaws.{reverse-cons, rest_here, each-reverse, map_is, within_drop}
use Rattle.pure_unify.proofs.PathLaws.{entries_terms, entries_typs}

-- No setting.
pub later_none : (later : Later) → later.typs ≡ [] → later.terms.items ≡ [] → IsLater [] later
later_none later e k = record {
  typs = e;
  terms = k;
  within = record { typs = tt; terms = tt };
  image = λ T. sym (ap (λ bs. typ_instance (typ_image bs) T) e ∙ typ_instance-identity T);
}

-- One of type variables before them.
under-entry : (rest : List Setting) (later : Later) → IsLater rest later → (b : TypBind) → entry_under later.typs b ≡ typ_entry rest b
under-entry rest later h b = λ l. record b { image = sym (h.image b.image) l }

pub later_typs : (rest : List Setting) (binds entries : List TypBind) (later new : Later) → IsLater rest later → entries ≡ reverse (map (entry_under later.typs) binds) → Each (λ b. IsWithinTyp b.image) entries
    → new.typs ≡ later.typs ++ entries → new.terms.items ≡ later.terms.items → IsTypMap new.typs → IsLater (OfTyps binds ∷ rest) new
later_typs rest binds entries later new h made within typs terms distinct =
    let own : entries ≡ reverse (map (typ_entry rest) binds) = made ∙ ap reverse (map-same (entry_under later.typs) (typ_entry rest) (under-entry rest later h) binds) in
    let all : new.typs ≡ reverse (typ_entries (OfTyps binds ∷ rest)) = typs ∙ ((λ l. h.typs l ++ own l) ∙ sym (reverse-append (map (typ_entry rest) binds) (typ_entries rest))) in
    let fit : Each (λ b. IsWithinTyp b.image) (map (typ_entry rest) binds) =
    subst (λ (bs : List TypBind). Each (λ b. IsWithinTyp b.image) bs) (ap reverse own ∙ reverse-reverse (map (typ_entry rest) binds)) (each-reverse (λ b. IsWithinTyp b.image) entries within) in
    record {
      typs = all;
      terms = terms ∙ h.terms;
      within = record { typs = each-append (λ b. IsWithinTyp b.image) (map (typ_entry rest) binds) (typ_entries rest) fit h.within.typs; terms = h.within.terms };
      image = map_is (OfTyps binds ∷ rest) new.typs all distinct;
    }

pub typs_beyond : (rest : List Setting) (binds : List TypBind) (later : Later) → IsLater rest later → ¬ Each (λ b. IsWithinTyp b.image) (map (entry_under later.typs) binds)
    → ¬ AreEntriesWithin (OfTyps binds ∷ rest)
typs_beyond rest binds later h beyond w =
    beyond (subst (λ (bs : List TypBind). Each (λ b. IsWithinTyp b.image) bs) (sym (map-same (entry_under later.typs) (typ_entry rest) (under-entry rest later h) binds))
    (each-left (λ b. IsWithinTyp b.image) (map (typ_entry rest) binds) (typ_entries rest) w.typs))

-- One of a schematic variable before them.
pub later_term : (rest : List Setting) (binds : List TermBind) (b entry : TermBind) (later new : Later) → IsLater rest later → binds ≡ b ∷ [] → entry ≡ term_entry rest b → IsWithin entry.image
    → new.typs ≡ later.typs → new.terms.items ≡ later.terms.items ++ entry ∷ [] → IsLater (OfTerm binds ∷ rest) new
later_term rest binds b entry later new h single is within typs terms =
    let own : term_entries (OfTerm binds ∷ rest) ≡ term_entry rest b ∷ term_entries rest = ap (λ bs. map (term_entry rest) bs ++ term_entries rest) single in
    record {
      typs = typs ∙ h.typs;
      terms = terms ∙ ((λ l. h.terms l ++ is l ∷ []) ∙ (sym (reverse-cons (term_entry rest b) (term_entries rest)) ∙ ap reverse (sym own)));
      within = record {
        typs = h.within.typs;
        terms = subst (λ (bs : List TermBind). Each (λ c. IsWithin c.image) bs) (sym own) (subst (λ (c : TermBind). IsWithin c.image) is within, h.within.terms);
      };
      image = λ T. h.image T ∙ ap (λ bs. typ_instance (typ_image bs) T) (sym typs);
    }

pub term_beyond : (rest : List Setting) (binds : List TermBind) (b : TermBind) → binds ≡ b ∷ [] → ¬ IsWithin (term_later rest b.image) → ¬ AreEntriesWithin (OfTerm binds ∷ rest)
term_beyond rest binds b single beyond w =
    let own : term_entries (OfTerm binds ∷ rest) ≡ term_entry rest b ∷ term_entries rest = ap (λ bs. map (term_entry rest) bs ++ term_entries rest) single in
    let first = subst (λ (bs : List TermBind). Each (λ c. IsWithin c.image) bs) own w.terms in
    beyond first.0

-- A loop from the last setting on.
pub record IsSoFar (settings : List Setting) (left : ℕ) (later : Later) : Type 0 where
  pub short : left ≤ length settings
  pub is : IsLater (drop left settings) later

pub far_start : (settings : List Setting) (later : Later) → later.typs ≡ [] → later.terms.items ≡ [] → IsSoFar settings (length settings) later
far_start settings later e k = record { short = omega arith; is = subst (λ hs. IsLater hs later) (sym (drop-length settings)) (later_none later e k) }
  where
    drop-length : (hs : List Setting) → drop (length hs) hs ≡ []
    drop-length [] = refl
    drop-length (h ∷ hs) = drop-length hs

pub far_more : (settings : List Setting) (left less : ℕ) (later more : Later) (s : Setting) → IsSoFar settings left later → 0 < left → less ≡ left - 1 → s ≡ get_or settings less s → IsLater (s ∷ drop left settings) more → IsSoFar settings less more
far_more settings left less later more s h some down read is =
    let short = h.short in
    record { short = omega arith; is = subst (λ hs. IsLater hs more) (sym (rest_here settings left less s some short down read)) is }

pub far_beyond : (settings : List Setting) (left less : ℕ) (later : Later) (s : Setting) → IsSoFar settings left later → 0 < left → less ≡ left - 1 → s ≡ get_or settings less s → ¬ AreEntriesWithin (s ∷ drop left settings) → ¬ AreEntriesWithin settings
far_beyond settings left less later s h some down read beyond w =
    beyond (subst (λ hs. AreEntriesWithin hs) (rest_here settings left less s some h.short down read) (within_drop settings less w))

pub far_end : (settings : List Setting) (left : ℕ) (later : Later) → IsSoFar settings left later → left ≤ 0 → IsLater settings later
far_end settings left later h over =
    let none : left ≡ 0 = omega arith in
    subst (λ hs. IsLater hs later) (ap (λ n. drop n settings) none ∙ whole settings) h.is
  where
    whole : (hs : List Setting) → drop 0 hs ≡ hs
    whole [] = refl
    whole (h ∷ hs) = refl

-- The unifier of a node, from its entries.
pub unifier_is : (held : Node) (m : node.Node) (later : Later) (u : Unifier) → IsNode held m → Each IsDistinct held.path.settings.items → IsLater held.path.settings.items later → u.typs ≡ reverse later.typs → u.terms ≡ reverse later.terms.items
    → u.flexflex.items ≡ held.pairs.items → (seen u ≡ unifier_of m) × AreImagesWithin (unifier_of m)
unifier_is held m later u is distinct h typs terms pairs =
    let hs = held.path.settings.items in
    let own_typs = entries_typs hs m.path.settings is.path.settings distinct in
    let own_terms = entries_terms hs m.path.settings is.path.settings in
    let typ_part : u.typs ≡ (unifier_of m).typs = typs ∙ (ap reverse h.typs ∙ (reverse-reverse (typ_entries hs) ∙ own_typs)) in
    let term_part : u.terms ≡ (unifier_of m).terms = terms ∙ (ap reverse h.terms ∙ (reverse-reverse (term_entries hs) ∙ own_terms)) in
    let pair_part : u.flexflex.items ≡ m.pairs = pairs ∙ is.pairs in (
      (λ l. record { typs = typ_part l; terms = term_part l; flexflex = pair_part l }),
      record {
        typs = subst (λ (bs : List TypBind). Each (λ b. IsWithinTyp b.image) bs) own_typs h.within.typs;
        terms = subst (λ (bs : List TermBind). Each (λ b. IsWithin b.image) bs) own_terms h.within.terms;
      },
    )

pub unifier_beyond : (held : Node) (m : node.Node) → IsNode held m → Each IsDistinct held.path.settings.items → ¬ AreEntriesWithin held.path.settings.items → ¬ AreImagesWithin (unifier_of m)
unifier_beyond held m is distinct beyond w =
    let hs = held.path.settings.items in
    beyond (record {
      typs = subst (λ (bs : List TypBind). Each (λ b. IsWithinTyp b.image) bs) (sym (entries_typs hs m.path.settings is.path.settings distinct)) w.typs;
      terms = subst (λ (bs : List TermBind). Each (λ b. IsWithin b.image) bs) (sym (entries_terms hs m.path.settings is.path.settings)) w.terms;
    })

-- Why something is too large.
pub big_for : (P Q : Type 0) → (P → Q) → (fault : Grow) → IsBigFor P fault → IsBigFor Q fault
big_for P Q f Big h = f h
big_for P Q f Memory h = tt

pub later_fault : (hs : List Setting) (fault : Grow) → IsBigFor (¬ AreEntriesWithin hs) fault → IsLaterAnswer hs (Err fault)
later_fault hs Big h = h
later_fault hs Memory h = tt

pub fault_later : (hs : List Setting) (fault : Grow) → IsLaterAnswer hs (Err fault) → IsBigFor (¬ AreEntriesWithin hs) fault
fault_later hs Big h = h
fault_later hs Memory h = tt

pub unifier_fault : (m : node.Node) (fault : Grow) → IsBigFor (¬ AreImagesWithin (unifier_of m)) fault → IsUnifierAnswer m (Err fault)
unifier_fault m Big h = h
unifier_fault m Memory h = tt

-- The settings behind the one that is read.
pub rest_slice : (settings : List Setting) (left : ℕ) → 0 < left → take (length settings - (left - 1 + 1)) (drop (left - 1 + 1) settings) ≡ drop left settings
rest_slice settings left some =
    let same : left - 1 + 1 ≡ left = omega arith in
    take_rest settings (left - 1 + 1) ∙ ap (λ n. drop n settings) same
