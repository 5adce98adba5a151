-- The edges of a lemma, as they are gathered.
use Rattle.std.proofs.Common.{◌≡◌, ◌↔◌, ◌⊎◌, ◌∙◌, ◌<◌, ◌≤◌, ◌+◌, ℕ, zero, suc, List, [], ◌∷◌, ◌++◌, length, get_or, take, append_assoc, inl, inr, refl, sym, ap, subst, map, arith}
use Rattle.std.specs.List.{flat_map}
use Rattle.std.proofs.lemmas.List.{append-nil, take_all, get_or_default}
use Rattle.std.proofs.lemmas.Grind.{flat_map-append}
use Rattle.pure_text.specs.Lists.{IsIn, Each, AnyOf, EachTwo}
use Rattle.pure_text.proofs.ListLaws.{any_some, any_of, two-append}
use Rattle.pure_text.proofs.LoopLaws.{longer_by}
use Rattle.pure_text.proofs.Joins.{joined_4}
use Rattle.pure_definitions.specs.Names.{Label}
use Rattle.pure_theorem.specs.Sets.{IsLabelSet}
use Rattle.pure_order_tables.specs.Rows.{Holds}
use Rattle.pure_order_tables.proofs.RowLaws.{none_held}
use Rattle.pure_print.specs.NameText.{text_of_name}
use Rattle.pure_print.specs.declared.row.Row.{Row}
use Rattle.pure_promise_fates.specs.Entries as fates
use Rattle.pure_promise_fates.specs.Entries.{Shown, IsNotShown, Became, AreEntries}
use Rattle.pure_promise_fates.specs.Reach.{IsAt}
use Rattle.pure_promise_fates.proofs.PlaceLaws.{at-in, in-at, at-once, at-map, at-read, one_place}
use Rattle.pure_promise_fates.proofs.CodeLaws.{at-seen}
use Rattle.pure_promise_fates.proofs.FateLaws.{became_once, shown-fault, shown-cancelled}
use Rattle.pure_promise_fates.proofs.ReachLaws.{became-at}
use Rattle.pure_table.specs.Declare.Notes.{Fork}
use Rattle.pure_table.specs.Promise.Entries.{LemmaEntry, plain}
use Rattle.pure_table.specs.Promise.declared.entry.Entry.{Entry}
use Rattle.pure_table.specs.Promise.Seen.{seen, seen_entry, reported}
use Rattle.pure_table.proofs.Promise.RowLaws.{reported-plain}
use Rattle.pure_citations.specs.Named.{NamesAxiom}
use Rattle.pure_citations.specs.Cites.{IsOk}
use Rattle.pure_citations.specs.Cited.{AreBeside}
use Rattle.pure_citations.specs.Edges.{OfAxiom, OfLemma, Edge}
use Rattle.pure_citations.specs.Drawn.{edge_line, opening, closing, cluster, IsDrawing, HasName, IsNameOf, IsEdgeToName, IsEdgeTo, AreEdgesOf, AreEdges, AreNamedRests, AreEdgesPut, AreAllPut}
use Rattle.pure_citations.specs.Heads.{IsPutOf}
use Rattle.pure_citations.specs.Nodes.{nodes_of}
use Rattle.pure_citations.specs.Reached.{Gains}
use Rattle.pure_citations.specs.declared.nodes.Node.{Node}
use Rattle.pure_citations.proofs.CitedCode.{beside-at}
use Rattle.pure_citations.proofs.ReachedLaws.{rests-stand}
use Rattle.pure_citations.proofs.DrawnLaws.{put-same, put-none}

-- Entries as they are seen stand where the reported ones stand.
pub seen-reported : (es : List Entry) (q : ℕ) (g : LemmaEntry) → IsAt (seen es) q g → IsAt (map reported es) q (plain g)
seen-reported [] q g at = absurd at
seen-reported (d ∷ es) zero g at = ap plain at
seen-reported (d ∷ es) (suc q) g at = seen-reported es q g at

-- The lemma with the label has the name of the entry that was found.
pub name-put : (es : List Entry) → IsLabelSet (map fates.Entry.label (map reported es)) → (place : ℕ) (d : Entry) (label : Label) → place < length es → d ≡ get_or es place d → (e : fates.Entry) × IsAt (map reported es) place e × (e.label ≡ label)
    → (old new : List ℕ) → ((n : ℕ) → Holds new n ↔ ((n ≡ d.name) ⊎ Holds old n)) → Gains (IsNameOf (seen es) label) old new
name-put es ascend place d label within is found old new put n = (
  λ h. elim ((put n).0 h) [ inl same ↦ inl (seen_entry d, at-in (seen es) place (seen_entry d) here, of_label, sym same) | inr o ↦ inr o ],
  λ w. elim w [ inl g ↦ (put n).1 (inl (back g)) | inr o ↦ (put n).1 (inr o) ],
)
  where
    here : IsAt (seen es) place (seen_entry d)
    here = at-seen seen_entry es place d within is

    there : IsAt (map reported es) place (reported d)
    there = at-seen reported es place d within is

    of_label : (seen_entry d).label ≡ label
    of_label = ap (λ (x : fates.Entry). x.label) (at-once (map reported es) place (reported d) found.0 there found.1) ∙ found.2

    back : IsNameOf (seen es) label n → n ≡ d.name
    back (g, m, l, named) =
        let at = in-at (seen es) g m in
        let same : at.0 ≡ place = one_place (map reported es) ascend at.0 place (plain g) (reported d) (seen-reported es at.0 g at.1) there (l ∙ sym of_label) in
        let one : g ≡ seen_entry d = at-once (seen es) place g (seen_entry d) (subst (λ q. IsAt (seen es) q g) same at.1) here in
        sym named ∙ ap (λ (x : LemmaEntry). x.name) one

-- The promises on which a proof rests are those of lemmas that stand.
pub rests-there : (es : List Entry) → AreEntries (map reported es) → (place : ℕ) (rests : List Label) → place < length es → ((e : fates.Entry) → IsAt (map reported es) place e → e.own ≡ Shown rests) → Each (λ k. IsIn k (map fates.Entry.label (map reported es))) rests
rests-there es entries place rests within shown =
    let d = get_or es place (first-of es place within) in
    let at : IsAt (map reported es) place (reported d) = at-map reported es place d (at-read es place (first-of es place within) within) in
    rests-stand (map reported es) entries place (reported d) at rests (shown (reported d) at)
  where
    first-of : (xs : List Entry) (p : ℕ) → p < length xs → Entry
    first-of [] p h = absurd (omega (arith, h))
    first-of (x ∷ xs) p h = x

abbrev IsBeside : Fork → LemmaEntry → Type 0
IsBeside f e = e.label ≡ f.label

module _ (texts : List (List ℕ)) (fs : List Fork) (es : List LemmaEntry) (entries : AreEntries (map plain es)) (two : AreBeside fs es) (law : AreNamedRests texts fs es) (place : ℕ) (e : LemmaEntry) (at : IsAt es place e) where
  abbrev ps : List fates.Entry
  ps = map plain es

  became : (own : fates.Own) → (plain e).own ≡ own → Became ps e.label own
  became own is = record { entry = plain e; stands = at-in ps place (plain e) (at-map plain es place e at); of_label = refl; own_is = is }

  -- The lemma with its label is the one at its place.
  one-fork : (f g : Fork) → IsAt fs place f → IsIn g fs → g.label ≡ e.label → g ≡ f
  one-fork f g here m same =
      let q = in-at fs g m in
      let b = beside-at IsBeside fs es two q.0 g q.1 in
      let one : q.0 ≡ place = one_place ps entries.ascend q.0 place (plain b.0) (plain e) (at-map plain es q.0 b.0 b.1) (at-map plain es place e at) (b.2 ∙ same) in
      at-once fs place g f (subst (λ k. IsAt fs k g) one q.1) here

  -- What was gathered is just that to which edges lead.
  pub edge-names : (f : Fork) → IsAt fs place f → (rests : List Label) → (plain e).own ≡ Shown rests → (mid named : List ℕ) → Gains (λ n. NamesAxiom texts f.content f.lemma f.script n) [] mid → Gains (λ n. AnyOf (λ k. IsNameOf es k n) rests) mid named
      → (n : ℕ) → Holds named n ↔ IsEdgeToName texts fs es e.label n
  edge-names f here rests own mid named axioms lemmas n = (
    λ h. elim ((lemmas n).0 h) [
      | inl any ↦ (let w = any_some (λ k. IsNameOf es k n) rests any in inr (w.0, w.2, (law e.label w.0).1 (rests, became (Shown rests) own, w.1)))
      | inr held ↦ elim ((axioms n).0 held) [
        | inl names ↦
            (let b = beside-at IsBeside fs es two place f here in
            let label : f.label ≡ e.label = sym b.2 ∙ ap (λ (x : LemmaEntry). x.label) (at-once es place b.0 e b.1 at) in
            inl (record { lemma = f; stands = at-in fs place f here; label = label; shown = (rests, became (Shown rests) own); names = names }))
        | inr none ↦ absurd (none_held 0 n none)
      ]
    ],
    λ w. elim w [
      | inl edge ↦
          (let same = one-fork f edge.lemma here edge.stands edge.label in
          (lemmas n).1 (inr ((axioms n).1 (inl (subst (λ (g : Fork). NamesAxiom texts g.content g.lemma g.script n) same edge.names)))))
      | inr k ↦
          (let on = (law e.label k.0).0 k.2 in
          let same : rests ≡ on.0 = shown-same rests on.0 (became_once ps entries.ascend e.label (Shown rests) (Shown on.0) (became (Shown rests) own) on.1) in
          (lemmas n).1 (inl (any_of (λ l. IsNameOf es l n) k.0 rests (subst (IsIn k.0) (sym same) on.2) k.1)))
    ],
  )
    where
      shown-same : (a b : List Label) → Shown a ≡ Shown b → a ≡ b
      shown-same a b same = cc

  -- No edge leads from a lemma that no proof shows.
  pub edge-none : IsNotShown (plain e).own → (number : ℕ) → IsEdgeToName texts fs es e.label number → ⊥
  edge-none none number w = elim w [ inl edge ↦ refuted edge.shown none | inr k ↦ refuted ((k.2).shown) none ]
    where
      refuted : IsOk es e.label → IsNotShown (plain e).own → ⊥
      refuted ok (inl fault) = shown-fault ok.0 (became_once ps entries.ascend e.label (Shown ok.0) fates.Fault ok.1 (became fates.Fault fault))
      refuted ok (inr gone) = shown-cancelled ok.0 (became_once ps entries.ascend e.label (Shown ok.0) fates.Cancelled ok.1 (became fates.Cancelled gone))

  -- The edges that were put are those of the lemma,
  pub edges-put : (nodes : List Node) (named old new : List ℕ) → ((n : ℕ) → Holds named n ↔ IsEdgeToName texts fs es e.label n) → IsPutOf (edge_line (text_of_name texts e.name)) (HasName texts named) nodes old new → AreEdgesPut texts fs es nodes e old new
  edges-put nodes named old new same h = put-same (edge_line (text_of_name texts e.name)) (HasName texts named) (IsEdgeTo texts fs es e.label) (λ x. (
    λ w. (w.0, w.1, (same w.0).0 w.2),
    λ w. (w.0, w.1, (same w.0).1 w.2),
  )) nodes old new h

  -- and none are.
  pub edges-none : IsNotShown (plain e).own → (nodes : List Node) (old : List ℕ) → AreEdgesPut texts fs es nodes e old old
  edges-none none nodes old = put-none (edge_line (text_of_name texts e.name)) (IsEdgeTo texts fs es e.label) nodes (λ x m w. edge-none none w.0 w.2) old

-- The edges of one lemma more.
pub all-none : (texts : List (List ℕ)) (fs : List Fork) (es : List LemmaEntry) (nodes : List Node) (old : List ℕ) → AreAllPut texts fs es nodes [] old old
all-none texts fs es nodes old = ([], record { parts = []; each = tt; text_is = refl }, sym (append-nil old))

pub all-more : (texts : List (List ℕ)) (fs : List Fork) (es : List LemmaEntry) (nodes : List Node) (some : List LemmaEntry) (e : LemmaEntry) (old mid new : List ℕ) → AreAllPut texts fs es nodes some old mid → AreEdgesPut texts fs es nodes e mid new
    → AreAllPut texts fs es nodes (some ++ e ∷ []) old new
all-more texts fs es nodes some e old mid new h k = (
  h.0 ++ k.0,
  record {
    parts = (h.1).parts ++ k.0 ∷ [];
    each = two-append (AreEdgesOf texts fs es nodes) some (e ∷ []) (h.1).parts (k.0 ∷ []) (h.1).each (k.1, tt);
    text_is = ap (λ t. t ++ k.0) (h.1).text_is ∙ (ap (λ t. flat_map (λ (part : List ℕ). part) (h.1).parts ++ t) (sym (append-nil k.0)) ∙ sym (flat_map-append (λ (part : List ℕ). part) (h.1).parts (k.0 ∷ [])));
  },
  k.2 ∙ (ap (λ t. t ++ k.0) h.2 ∙ append_assoc old h.0 k.0),
)

-- What is said of the entry at a place, of each that stands there.
pub own-there : (es : List Entry) (place : ℕ) (d : Entry) → place < length es → d ≡ get_or es place d → (rests : List Label) → (reported d).own ≡ Shown rests → (e : fates.Entry) → IsAt (map reported es) place e → e.own ≡ Shown rests
own-there es place d within is rests own e at = ap (λ (x : fates.Entry). x.own) (at-once (map reported es) place e (reported d) at (at-seen reported es place d within is)) ∙ own

module _ (texts : List (List ℕ)) (fs : List Fork) (es : List Entry) (entries : AreEntries (map reported es)) (two : AreBeside fs (seen es)) (law : AreNamedRests texts fs (seen es)) (place : ℕ) (d : Entry) (within : place < length es) (is : d ≡ get_or es place d) where
  seen-there : (e : LemmaEntry) → IsAt (seen es) place e → seen_entry d ≡ e
  seen-there e at = at-once (seen es) place (seen_entry d) e (at-seen seen_entry es place d within is) at

  plain-entries : AreEntries (map plain (seen es))
  plain-entries = subst AreEntries (sym (reported-plain es)) entries

  -- The edges of a lemma that is shown,
  pub shown-put : (nodes : List Node) (named old new : List ℕ) → ((e : LemmaEntry) → IsAt (seen es) place e → (n : ℕ) → Holds named n ↔ IsEdgeToName texts fs (seen es) e.label n)
      → IsPutOf (edge_line (text_of_name texts d.name)) (HasName texts named) nodes old new → (e : LemmaEntry) → IsAt (seen es) place e → AreEdgesPut texts fs (seen es) nodes e old new
  shown-put nodes named old new same h e at =
      edges-put texts fs (seen es) plain-entries two law place e at nodes named old new (same e at)
      (subst (λ x. IsPutOf (edge_line (text_of_name texts x)) (HasName texts named) nodes old new) (ap (λ (x : LemmaEntry). x.name) (seen-there e at)) h)

  -- and of one that isn't.
  pub none-put : IsNotShown (reported d).own → (nodes : List Node) (old : List ℕ) (e : LemmaEntry) → IsAt (seen es) place e → AreEdgesPut texts fs (seen es) nodes e old old
  none-put none nodes old e at =
      edges-none texts fs (seen es) plain-entries two law place e at (subst (λ (x : LemmaEntry). IsNotShown (plain x).own) (seen-there e at) none) nodes old

-- One lemma more of those of a list.
pub all-step : (texts : List (List ℕ)) (fs : List Fork) (es : List LemmaEntry) (nodes : List Node) (place : ℕ) → place < length es → (old mid new : List ℕ) → AreAllPut texts fs es nodes (take place es) old mid
    → ((e : LemmaEntry) → IsAt es place e → AreEdgesPut texts fs es nodes e mid new) → AreAllPut texts fs es nodes (take (place + 1) es) old new
all-step texts fs es nodes place within old mid new h k =
    let d = first-of es place within in
    let e = get_or es place d in
    subst (λ some. AreAllPut texts fs es nodes some old new) (sym (longer_by es place e within (get_or_default es place d e within))) (all-more texts fs es nodes (take place es) e old mid new h (k e (at-read es place d within)))
  where
    first-of : (xs : List LemmaEntry) (p : ℕ) → p < length xs → LemmaEntry
    first-of [] p less = absurd (omega (arith, less))
    first-of (x ∷ xs) p less = x

pub all-end : (texts : List (List ℕ)) (fs : List Fork) (es : List LemmaEntry) (nodes : List Node) (place : ℕ) → length es ≤ place → (old new : List ℕ) → AreAllPut texts fs es nodes (take place es) old new → AreAllPut texts fs es nodes es old new
all-end texts fs es nodes place past old new h = subst (λ some. AreAllPut texts fs es nodes some old new) (take_all place es past) h

-- The whole text is put together.
pub drawn : (texts theories : List (List ℕ)) (fs : List Fork) (es : List LemmaEntry) (rows : List Row) (nodes : List Node) → nodes ≡ nodes_of rows → (t0 t1 t2 t3 t4 : List ℕ) → t0 ≡ [] → t1 ≡ t0 ++ opening → t2 ≡ t1 ++ flat_map (cluster nodes) theories
    → AreAllPut texts fs es nodes es t2 t3 → t4 ≡ t3 ++ closing → IsDrawing texts theories fs es rows t4
drawn texts theories fs es rows nodes same t0 t1 t2 t3 t4 none first clusters edges last = record {
  edges = edges.0;
  are_edges = subst (λ ns. AreEdges texts fs es ns es edges.0) same edges.1;
  text_is =
      let begun : t1 ≡ [] ++ opening = first ∙ ap (λ t. t ++ opening) none in
      joined_4 [] t1 t2 t3 t4 opening (flat_map (cluster nodes) theories) edges.0 closing begun clusters edges.2 last ∙ ap (λ ns. opening ++ (flat_map (cluster ns) theories ++ (edges.0 ++ closing))) same;
}
