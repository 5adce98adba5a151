-- Scans of nodes, settings on the path, and pairs that are split.
use Rattle.std.proofs.Common.{◌≡◌, ℕ, List, [], ◌∷◌, ◌++◌, length, reverse, ap, sym, subst, ◌∙◌}
use Rattle.std.proofs.lemmas.List.{reverse-reverse}
use Rattle.pure_text.specs.Lists.{Each, EachTwo}
use Rattle.pure_text.proofs.ListLaws.{each-append, each-left, each-right, two-append}
use Rattle.pure_definitions.specs.Terms.Subst.{TermBind, AreTypeRespecting}
use Rattle.pure_definitions.specs.Terms.Typing.{HasType}
use Rattle.pure_logic.specs.Derivable.{Pair}
use Rattle.pure_unify_definitions.specs.Fronts.{argument_pairs}
use Rattle.pure_unify_definitions.specs.Node as node
use Rattle.pure_unify_definitions.specs.Node.{Single, further}
use Rattle.pure_unify_definitions.specs.Simplification.{IsLeft, IsSplitAt, with_pairs}
use Rattle.pure_unify_steps.specs.declared.node.Setting.{Setting}
use Rattle.pure_unify_steps.specs.declared.node.Setting.TheVariants.{OfTyps, OfTerm}
use Rattle.pure_unify_steps.specs.declared.node.Path.{Path}
use Rattle.pure_unify_steps.specs.declared.node.Node.{Node}
use Rattle.pure_unify_steps.specs.Held.{IsSetting, IsTypedSetting, IsPath, IsNode}
use Rattle.pure_unify_nodes.specs.Long.{IsLongPair}
use Rattle.pure_unify_steps.proofs.LongLaws.{argument_pairs-long}
use Rattle.pure_unify_visits.specs.declared.scan.Scan.{Scan}
use Rattle.pure_unify_visits.specs.Scanned.{IsScan, IsReady, HasAsMany, HasAsManyAt, ArePairsSplit}
use Rattle.pure_unify_visits.proofs.ListLaws.{each-reverse, last_first, put_in_front, same_cut}

-- A scan from the front.
pub scan_node : (scan : Scan) (ps : List Pair) (n : node.Node) → scan.passed.items ≡ [] → reverse scan.rest.items ≡ ps → ps ≡ n.pairs → IsPath scan.path n.path → IsScan scan n
scan_node scan ps n e f g p = record { pairs = (λ i. e i ++ f i) ∙ g; path = p }

pub scan_ready : (scan : Scan) → scan.passed.items ≡ [] → Each IsLongPair scan.rest.items → IsReady scan
scan_ready scan e h = record {
  left = subst (λ (ps : List Pair). Each IsLeft ps) (sym e) tt;
  passed = subst (λ (ps : List Pair). Each IsLongPair ps) (sym e) tt;
  rest = h;
}

pub reversed_long : (ps qs : List Pair) → qs ≡ reverse ps → Each IsLongPair ps → Each IsLongPair qs
reversed_long ps qs e h = subst (λ (os : List Pair). Each IsLongPair os) (sym e) (each-reverse IsLongPair ps h)

pub reversed_back : (ps qs : List Pair) → qs ≡ reverse ps → reverse qs ≡ ps
reversed_back ps qs e = ap reverse e ∙ reverse-reverse ps

-- The pairs of a ready scan are long.
pub scanned_long : (scan : Scan) (ps : List Pair) → IsReady scan → ps ≡ scan.passed.items ++ reverse scan.rest.items → Each IsLongPair ps
scanned_long scan ps h e = subst (λ (qs : List Pair). Each IsLongPair qs) (sym e) (each-append IsLongPair scan.passed.items (reverse scan.rest.items) h.passed (each-reverse IsLongPair scan.rest.items h.rest))

pub pairs_long : (scan : Scan) (p : Pair) (ps : List Pair) → IsReady scan → IsLongPair p → ps ≡ scan.passed.items ++ p ∷ reverse scan.rest.items → Each IsLongPair ps
pairs_long scan p ps h k e = subst (λ (qs : List Pair). Each IsLongPair qs) (sym e) (each-append IsLongPair scan.passed.items (p ∷ reverse scan.rest.items) h.passed (k, each-reverse IsLongPair scan.rest.items h.rest))

-- One setting more.
pub path_further : (held made : Path) (p : node.Path) (setting : Setting) (s : node.Setting) → made.settings.items ≡ held.settings.items ++ setting ∷ [] → made.choices ≡ held.choices → made.fresh ≡ held.fresh → IsPath held p → IsSetting setting s → IsPath made (further p s)
path_further held made p setting s e f g h k = record {
  settings = subst (λ (xs : List Setting). EachTwo IsSetting xs (p.settings ++ s ∷ [])) (sym e) (two-append IsSetting held.settings.items (setting ∷ []) p.settings (s ∷ []) h.settings (k, tt));
  choices = f ∙ h.choices;
  fresh = g ∙ h.fresh;
}

-- The setting of a variable, whose image has the variable's type.
pub typed_setting : (setting : Setting) (b : TermBind) → IsSetting setting (Single b) → HasType [] b.image b.typ → IsTypedSetting setting
typed_setting (OfTyps map) b h t = absurd h
typed_setting (OfTerm map) b h t = subst AreTypeRespecting (sym h) (t, tt)

-- Pairs of arguments in place of a pair.
pub split_ready : (scan next : Scan) (p : Pair) → IsReady scan → IsLongPair p → next.passed.items ≡ scan.passed.items → next.rest.items ≡ scan.rest.items ++ reverse (argument_pairs p.left p.right) → IsReady next
split_ready scan next p h k e f = record {
  left = subst (λ (ps : List Pair). Each IsLeft ps) (sym e) h.left;
  passed = subst (λ (ps : List Pair). Each IsLongPair ps) (sym e) h.passed;
  rest = subst (λ (ps : List Pair). Each IsLongPair ps) (sym f) (each-append IsLongPair scan.rest.items (reverse (argument_pairs p.left p.right)) h.rest (each-reverse IsLongPair (argument_pairs p.left p.right) (argument_pairs-long p k)));
}

-- the pair that is popped behind the front that was taken is the one that stands behind so many others
popped_is : (old mid new before : List Pair) (count : ℕ) (p : Pair) → (h : HasAsManyAt (reverse old) count) → before ++ reverse mid ≡ reverse old → length before ≡ count → mid ≡ new ++ p ∷ [] → (before ≡ h.before) × (p ∷ reverse new ≡ h.at ∷ h.behind)
popped_is old mid new before count p h e n f = same_cut before h.before (p ∷ reverse new) (h.at ∷ h.behind) (ap (λ ps. before ++ ps) (sym (last_first mid new p f)) ∙ (e ∙ h.stands)) (n ∙ sym h.place)

pub popped_many : (old mid new before : List Pair) (count : ℕ) (p : Pair) → HasAsManyAt (reverse old) count → before ++ reverse mid ≡ reverse old → length before ≡ count → mid ≡ new ++ p ∷ [] → HasAsMany p
popped_many old mid new before count p h e n f =
    let cut = popped_is old mid new before count p h e n f in
    let same : p ≡ h.at = cc in
    subst HasAsMany (sym same) h.many

pub pairs_split : (old mid new more last before : List Pair) (count : ℕ) (p : Pair) → before ++ reverse mid ≡ reverse old → length before ≡ count → mid ≡ new ++ p ∷ [] → more ≡ new ++ reverse (argument_pairs p.left p.right) → last ≡ more ++ reverse before
    → ArePairsSplit count (reverse old) (reverse last)
pairs_split old mid new more last before count p e n f g k = record {
  before = before;
  at = p;
  behind = reverse new;
  stands = sym e ∙ ap (λ ps. before ++ ps) (last_first mid new p f);
  place = n;
  are = ap reverse k ∙ (put_in_front more before ∙ ap (λ ps. before ++ ps) (ap reverse g ∙ put_in_front new (argument_pairs p.left p.right)));
}

pub split_node : (scan : Scan) (held : Node) (m : node.Node) (front ps rest : List Pair) (count : ℕ) → length front ≡ count → IsNode held m → ps ≡ held.pairs.items → ArePairsSplit count ps (reverse rest)
    → scan.passed.items ≡ [] → scan.rest.items ≡ rest → scan.path ≡ held.path → (split : node.Node) × IsScan scan split × IsSplitAt front m split
split_node scan held m front ps rest count n h e s f g k = (
  with_pairs m (reverse rest),
  record { pairs = λ i. f i ++ reverse (g i); path = subst (λ (p : Path). IsPath p m.path) (sym k) h.path },
  record { before = s.before; at = s.at; behind = s.behind; stands = sym h.pairs ∙ (sym e ∙ s.stands); place = s.place ∙ sym n; are = ap (with_pairs m) s.are },
)

pub split_long : (count : ℕ) (ps qs : List Pair) → Each IsLongPair ps → ArePairsSplit count ps (reverse qs) → Each IsLongPair qs
split_long count ps qs h s =
    let whole = subst (λ (os : List Pair). Each IsLongPair os) s.stands h in
    let own : Each IsLongPair (s.at ∷ s.behind) = each-right IsLongPair s.before (s.at ∷ s.behind) whole in
    let parts : Each IsLongPair (argument_pairs s.at.left s.at.right ++ s.behind) = each-append IsLongPair (argument_pairs s.at.left s.at.right) s.behind (argument_pairs-long s.at own.0) own.1 in
    let all : Each IsLongPair (reverse qs) = subst (λ (os : List Pair). Each IsLongPair os) (sym s.are) (each-append IsLongPair s.before (argument_pairs s.at.left s.at.right ++ s.behind) (each-left IsLongPair s.before (s.at ∷ s.behind) whole) parts) in
    subst (λ (os : List Pair). Each IsLongPair os) (reverse-reverse qs) (each-reverse IsLongPair (reverse qs) all)
