-- Each theory of a session may begin over the last contents of its parents.
use Rattle.std.proofs.Common.{◌≡◌, ◌≢◌, ◌⊎◌, ◌≤◌, ℕ, zero, suc, List, [], ◌∷◌, ◌++◌, map, refl, sym, ap, ◌∙◌, subst, inl, inr, arith}
use Rattle.std.specs.Prelude.{Some, slice_get}
use Rattle.pure_text.specs.Lists.{IsIn, Each, AreDistinct}
use Rattle.pure_text.proofs.ListLaws.{each_imply, each-append, in_split, in-append_left, in-append_right}
use Rattle.pure_typ.specs.NameTexts.{HasText}
use Rattle.pure_logic.specs.Content.{TheoryId, Content, IsContent}
use Rattle.pure_lookup.specs.Meaning.{pure_text}
use Rattle.pure_graph.specs.Order.{Loaded}
use Rattle.pure_session_laws.specs.Declare.Notes.{Note}
use Rattle.pure_session_laws.specs.Declare.Fold.{AreDeclared}
use Rattle.pure_session_laws.specs.Owned.{IsLast, IsOwned}
use Rattle.pure_session_laws.specs.Ended.{HasPlainName, AreEnded, IsNext, IsParent, IsGivenParents}
use Rattle.pure_session_laws.specs.Kept.{NothingHasEnded, TheoryEnds}
use Rattle.pure_session_laws.proofs.BeginLaws.{parents-may_begin}
use Rattle.pure_session_laws.proofs.EndLaws.{nothing-has_ended, theory-ends}
use Rattle.pure_session_laws.specs.Loaded.{IsLoadedSession}
use Rattle.pure_session_meaning.specs.Verdicts.{Verdict, Ran, IsTheoryAt, AreLast, beginning_over, Begins, Closes, barred, ran, AllClose, nothing, also}
use Rattle.pure_session_meaning.specs.Given.{TheoriesMayBegin}
use Rattle.pure_session_meaning.proofs.TextLaws.{one_text, theory-well}
use Rattle.pure_session_meaning.proofs.OrderlyLaws.{run-ordered}
use Rattle.pure_session_meaning.proofs.OwnLaws.{IsOwnOf, run-own}
use Rattle.pure_session_meaning.proofs.OnceLaws.{closes-once}
use Rattle.pure_session_meaning.proofs.NoteLaws.{closes-run}

-- Theories at two places have different names.
name-in : (theories : List Loaded) (p : ℕ) (l : Loaded) → slice_get theories p ≡ Some l → IsIn l.name (map (λ (t : Loaded). t.name) theories)
name-in [] zero l h = absurd (cc)
name-in [] (suc p) l h = absurd (cc)
name-in (t ∷ ts) zero l h = let same : t ≡ l = cc in inl (ap (λ (x : Loaded). x.name) (sym same))
name-in (t ∷ ts) (suc p) l h = inr (name-in ts p l h)

place-by_name : (theories : List Loaded) → AreDistinct (map (λ (t : Loaded). t.name) theories) → (p q : ℕ) (l m : Loaded) → slice_get theories p ≡ Some l → slice_get theories q ≡ Some m → l.name ≡ m.name → p ≡ q
place-by_name [] distinct zero q l m h k e = absurd (cc)
place-by_name [] distinct (suc p) q l m h k e = absurd (cc)
place-by_name (t ∷ ts) distinct zero zero l m h k e = refl
place-by_name (t ∷ ts) distinct zero (suc q) l m h k e =
    let same : t ≡ l = cc in
    absurd (distinct.0 (subst (λ (x : List ℕ). IsIn x (map (λ (y : Loaded). y.name) ts)) (sym e ∙ ap (λ (x : Loaded). x.name) (sym same)) (name-in ts q m k)))
place-by_name (t ∷ ts) distinct (suc p) zero l m h k e =
    let same : t ≡ m = cc in
    absurd (distinct.0 (subst (λ (x : List ℕ). IsIn x (map (λ (y : Loaded). y.name) ts)) (e ∙ ap (λ (x : Loaded). x.name) (sym same)) (name-in ts p l h)))
place-by_name (t ∷ ts) distinct (suc p) (suc q) l m h k e = ap suc (place-by_name ts distinct.1 p q l m h k e)

last-of : (v : Verdict) (ns ms : List Note) (P R : Content) → v ≡ Ran ns P → v ≡ Ran ms R → P ≡ R
last-of v ns ms P R h k = let same = sym h ∙ k in cc

module _ (texts : List (List ℕ)) (theories : List Loaded) (session : IsLoadedSession texts theories) where
  closed-own : (index : ℕ) (notes : List Note) (P : Content) → Closes texts theories index (Ran notes P) → IsOwnOf texts theories index P
  closed-own index notes P closes = run-own texts theories index notes P [] (closes-run closes notes P refl)

  -- These are last contents of theories that have closed, up to a bound.
  pub record AreClosed (bound : ℕ) (ended : List Content) : Type 0 where
    pub are : AreEnded texts ended
    pub closed : (P : Content) → IsIn P ended → (j : ℕ) × (ns : List Note) × (j ≤ bound) × Closes texts theories j (Ran ns P)

  -- A theory with a last content among these.
  is-own : (j : ℕ) (ns : List Note) (P : Content) (t : TheoryId) → Closes texts theories j (Ran ns P) → P.own ≡ Some t → (theory : Loaded) × IsTheoryAt theories j theory × HasText texts t.name theory.name × (t.index ≡ j)
  is-own j ns P t closes own =
      let w = closed-own j ns P closes in
      let is = w.own in
      let same : ◌≡◌ {A = TheoryId} (record { name = w.name; index = j }) t = cc in
      (w.theory, w.is_at, subst (λ (u : TheoryId). HasText texts u.name w.theory.name) same w.text, ap (λ (u : TheoryId). u.index) (sym same))

  pub by-name : (i j : ℕ) (a b : Loaded) → IsTheoryAt theories i a → IsTheoryAt theories j b → (m n : ℕ) → HasText texts m a.name → HasText texts n b.name → m ≡ n → i ≡ j
  by-name i j a b h k m n s t same =
      let names : a.name ≡ b.name = one_text texts n a.name b.name (subst (λ (x : ℕ). HasText texts x a.name) same s) t in
      h.1 ∙ ap suc (place-by_name theories session.distinct h.0 k.0 a b h.2 k.2 names) ∙ sym k.1

  one-closed : (j k : ℕ) (ns ms : List Note) (P R : Content) → Closes texts theories j (Ran ns P) → Closes texts theories k (Ran ms R) → j ≡ k → P ≡ R
  one-closed j k ns ms P R h g same = last-of (Ran ms R) ns ms P R (sym (closes-once texts theories session h (subst (λ (i : ℕ). Closes texts theories i (Ran ms R)) (sym same) g))) refl

  told-apart : (j k : ℕ) (ns ms : List Note) (t u : TheoryId) (P R : Content) → Closes texts theories j (Ran ns P) → Closes texts theories k (Ran ms R) → P.own ≡ Some t → R.own ≡ Some u → (t.name ≡ u.name) ⊎ (t.index ≡ u.index) → P ≡ R
  told-apart j k ns ms t u P R h g own other (inl name) =
      let a = is-own j ns P t h own in
      let b = is-own k ms R u g other in
      one-closed j k ns ms P R h g (by-name j k a.0 b.0 a.1 b.1 t.name u.name a.2 b.2 name)
  told-apart j k ns ms t u P R h g own other (inr index) =
      one-closed j k ns ms P R h g (sym (is-own j ns P t h own).3 ∙ index ∙ (is-own k ms R u g other).3)

  plain-closed : (j : ℕ) (ns : List Note) (t : TheoryId) (P : Content) → Closes texts theories j (Ran ns P) → P.own ≡ Some t → HasPlainName texts t
  plain-closed j ns t P h own text has =
      let a = is-own j ns P t h own in
      let same : text ≡ a.0.name = one_text texts t.name text a.0.name has a.2 in
      subst (λ (x : List ℕ). (¬ IsIn 46 x) × (x ≢ pure_text)) (sym same) (theory-well texts theories session j a.0 a.1).plain

  last-more : (ended all : List Content) → ((P : Content) → IsIn P ended → IsIn P all) → (t : TheoryId) (P : Content) → IsLast ended t P → IsLast all t P
  last-more ended all more t P h = record { among = more P h.among; own = h.own }

  owned-more : (ended all : List Content) → ((P : Content) → IsIn P ended → IsIn P all) → (Q : Content) → IsOwned texts ended Q → IsOwned texts all Q
  owned-more ended all more Q h d m = elim (h d m) [
    | inl pure ↦ inl pure
    | inr other ↦ elim other [
      | inl old ↦ inr (inl (record { theory = old.theory; last = old.last; is_last = last-more ended all more old.theory old.last old.is_last; of_theory = old.of_theory; there = old.there }))
      | inr own ↦ inr (inr own)
    ]
  ]

  -- Such contents, and others.
  both-closed : (bound : ℕ) (es fs : List Content) → AreClosed bound es → AreClosed bound fs → AreClosed bound (es ++ fs)
  both-closed bound es fs h k = record {
    are = record {
      contents = each-append IsContent es fs h.are.contents k.are.contents;
      owned = each-append (IsOwned texts (es ++ fs)) es fs (each_imply (IsOwned texts es) (IsOwned texts (es ++ fs)) es (owned-more es (es ++ fs) left-in) h.are.owned) (each_imply (IsOwned texts fs) (IsOwned texts (es ++ fs)) fs (owned-more fs (es ++ fs) right-in) k.are.owned);
      known = λ P m t n. elim (in_split P es fs m) [
        | inl a ↦ (let w = h.are.known P a t n in (w.0, last-more es (es ++ fs) left-in t w.0 w.1))
        | inr b ↦ (let w = k.are.known P b t n in (w.0, last-more fs (es ++ fs) right-in t w.0 w.1))
      ];
      apart = λ t u P R a b e. (let p = closed P a.among in let r = closed R b.among in told-apart p.0 r.0 p.1 r.1 t u P R p.3 r.3 a.own b.own e);
      plain = λ t P a. (let p = closed P a.among in plain-closed p.0 p.1 t P p.3 a.own);
    };
    closed = closed;
  }
    where
      left-in : (P : Content) → IsIn P es → IsIn P (es ++ fs)
      left-in P m = in-append_left P es fs m

      right-in : (P : Content) → IsIn P fs → IsIn P (es ++ fs)
      right-in P m = in-append_right P es fs m

      closed : (P : Content) → IsIn P (es ++ fs) → (j : ℕ) × (ns : List Note) × (j ≤ bound) × Closes texts theories j (Ran ns P)
      closed P m = elim (in_split P es fs m) [ inl a ↦ h.closed P a | inr b ↦ k.closed P b ]

  higher-bound : (low high : ℕ) (ended : List Content) → low ≤ high → AreClosed low ended → AreClosed high ended
  higher-bound low high ended le h = record { are = h.are; closed = λ P m. (let w = h.closed P m in (w.0, w.1, omega (arith, w.2, le), w.3)) }

  -- The name of a theory is plain.
  pub plain-name : (index : ℕ) (theory : Loaded) → IsTheoryAt theories index theory → (name : ℕ) → HasText texts name theory.name → HasPlainName texts (record { name = name; index = index })
  plain-name index theory is_at name text x has =
      let same : x ≡ theory.name = one_text texts name x theory.name has text in
      subst (λ (y : List ℕ). (¬ IsIn 46 y) × (y ≢ pure_text)) (sym same) (theory-well texts theories session index theory is_at).plain

  -- What a theory that begins is given.
  module _ (index : ℕ) (theory : Loaded) (is_at : IsTheoryAt theories index theory) (name : ℕ) (text : HasText texts name theory.name) (ended : List Content) (h : AreClosed is_at.0 ended) where
    is-next : IsNext ended (record { name = name; index = index })
    is-next t P last =
        let w = h.closed P last.among in
        let a = is-own w.0 w.1 P t w.3 last.own in (
          omega (arith, a.3, w.2, is_at.1),
          λ same. (let one : w.0 ≡ index = by-name w.0 index a.0 theory a.1 is_at t.name name a.2 text same in absurd (omega (arith, one, w.2, is_at.1))),
        )

    some-over : (contents : List Content) → ¬ (beginning_over contents ≡ [])
    some-over [] e = absurd (cc)
    some-over (Q ∷ Qs) e = absurd (cc)

    is-parent : (P : Content) → IsIn P ended → IsParent ended P
    is-parent P m =
        let w = h.closed P m in
        let own = closed-own w.0 w.1 P w.3 in
        inr (record { name = own.name; index = w.0 }, record { among = m; own = own.own })

    each-parent : (contents : List Content) → Each (λ P. IsIn P ended) contents → Each (IsParent ended) (beginning_over contents)
    each-parent [] m = (inl refl, tt)
    each-parent (Q ∷ Qs) m = each_imply (λ P. IsIn P ended) (IsParent ended) (Q ∷ Qs) is-parent m

    pub given-parents : (contents : List Content) → Each (λ P. IsIn P ended) contents → IsGivenParents texts ended (record { name = name; index = index }) (beginning_over contents)
    given-parents contents m = record { next = is-next; plain = plain-name index theory is_at name text; some = some-over contents; each = each-parent contents m }

  module _ (nothing_ended : NothingHasEnded) (ends : TheoryEnds) where
    -- the last contents of theories, and of all that are before them
    pub record IsGathered (bound : ℕ) (v : Verdict) : Type 0 where
      pub ended : List Content
      pub are : AreClosed bound ended
      pub has : (ns : List Note) (P : Content) → v ≡ Ran ns P → IsIn P ended

    pub record AreGathered (bound : ℕ) (verdicts : List Verdict) : Type 0 where
      pub ended : List Content
      pub are : AreClosed bound ended
      pub have : (contents : List Content) → AreLast verdicts contents → Each (λ P. IsIn P ended) contents

    none-closed : (bound : ℕ) → AreClosed bound []
    none-closed bound = record { are = nothing_ended texts; closed = λ P m. absurd m }

    one-more : (index : ℕ) (theory : Loaded) (is_at : IsTheoryAt theories index theory) (parents : List Verdict) (first last : Content) (notes : List Note) → AllClose texts theories theory.parents parents → Begins texts index theory parents first
        → AreDeclared texts theory.source index 0 first theory.text.commands notes last → Closes texts theories index (Ran notes last) → AreGathered is_at.0 parents → IsGathered index (Ran notes last)
    one-more index theory is_at parents first last notes closed b declared closes g =
        let given = given-parents index theory is_at b.name b.text g.ended g.are b.contents (g.have b.contents b.last) in
        let content : IsContent last = (run-ordered texts theories session index notes last [] (closes-run closes notes last refl)).orderly.good.sound.content in
        record {
          ended = last ∷ g.ended;
          are = record {
            are = (ends texts g.ended g.are.are (record { name = b.name; index = index }) (beginning_over b.contents) given first last b.begins theory.source 0 theory.text.commands notes declared content).0;
            closed = λ P m. elim m [
              | inl same ↦ (index, notes, omega arith, subst (λ (Q : Content). Closes texts theories index (Ran notes Q)) (sym same) closes)
              | inr later ↦ (let w = g.are.closed P later in (w.0, w.1, omega (arith, w.2, is_at.1), w.3))
            ];
          };
          has = λ ns P e. inl (last-of (Ran notes last) ns notes P last e refl);
        }

    -- One closed theory and others.
    and-others : (bound : ℕ) (v : Verdict) (vs : List Verdict) → IsGathered bound v → AreGathered bound vs → AreGathered bound (v ∷ vs)
    and-others bound v vs h k = record { ended = h.ended ++ k.ended; are = both-closed bound h.ended k.ended h.are k.are; have = have }
      where
        have : (contents : List Content) → AreLast (v ∷ vs) contents → Each (λ P. IsIn P (h.ended ++ k.ended)) contents
        have [] last = tt
        have (P ∷ Ps) last = (
          in-append_left P h.ended k.ended (h.has last.0.0 P last.0.1),
          each_imply (λ Q. IsIn Q k.ended) (λ Q. IsIn Q (h.ended ++ k.ended)) Ps (λ Q m. in-append_right Q h.ended k.ended m) (k.have Ps last.1),
        )

    no-others : (bound : ℕ) → AreGathered bound []
    no-others bound = record { ended = []; are = none-closed bound; have = have }
      where
        have : (contents : List Content) → AreLast [] contents → Each (λ P. IsIn P []) contents
        have [] last = tt
        have (P ∷ Ps) last = absurd last

    raised : (low high : ℕ) (v : Verdict) → low ≤ high → IsGathered low v → IsGathered high v
    raised low high v le h = record { ended = h.ended; are = higher-bound low high h.ended le h.are; has = h.has }

    mutual
      pub gather : {index : ℕ} {v : Verdict} → Closes texts theories index v → IsGathered index v
      gather (barred {index = index} is_at closed is) = record { ended = []; are = none-closed index; has = λ ns P e. absurd (cc) }
      gather (ran {index = index} {theory = theory} {parents = parents} {first = first} {last = last} {notes = notes} is_at closed begins declared) =
          one-more index theory is_at parents first last notes closed begins declared (ran is_at closed begins declared) (gather-all closed is_at.0 (session.parents is_at.0 theory is_at.2))

      pub gather-all : {parents : List ℕ} {verdicts : List Verdict} → AllClose texts theories parents verdicts → (bound : ℕ) → Each (λ p. (1 ≤ p) × (p ≤ bound)) parents → AreGathered bound verdicts
      gather-all nothing bound early = no-others bound
      gather-all (also {index = p} {verdict = v} {verdicts = vs} c cs) bound early = and-others bound v vs (raised p bound v early.0.1 (gather c)) (gather-all cs bound early.1)

pub theories_may_begin : TheoriesMayBegin
theories_may_begin texts theories session index theory is_at parents closed contents last name text =
    let g = gather-all texts theories session nothing-has_ended theory-ends closed is_at.0 (session.parents is_at.0 theory is_at.2) in
    parents-may_begin texts g.ended session.names g.are.are (record { name = name; index = index }) (beginning_over contents)
    (given-parents texts theories session index theory is_at name text g.ended g.are contents (g.have contents last))
