-- Lines with their trees, and conclusions alone: each infers what the other does.
use Rattle.std.proofs.Common.{◌≡◌, ◌∙◌, ℕ, List, [], ◌∷◌, ◌++◌, refl, sym, ap, subst}
use Rattle.std.specs.Prelude.{Some, slice_get, true}
use Rattle.std.specs.Option.{option_map}
use Rattle.std.specs.Set.{sorted_merge}
use Rattle.std.proofs.lemmas.Option.{slice_get-map}
use Rattle.pure_text.specs.Lists.{Each}
use Rattle.pure_text.proofs.ListLaws.{each-append, each_imply}
use Rattle.pure_replay.proofs.PlaceLaws.{slice_get-mapped, each_there}
use Rattle.pure_definitions.specs.Types.Typ.{prop}
use Rattle.pure_definitions.specs.Terms.Term.{Term}
use Rattle.pure_definitions.specs.Terms.Bounds.{subst_bound, abstract_over, Occurs, IsClosed}
use Rattle.pure_definitions.specs.Terms.Subst.{TypBind, TermBind, typ_image}
use Rattle.pure_definitions.specs.Models.Comparison.{term_cmp}
use Rattle.pure_definitions.specs.Declarations.Decl.{algebra_of}
use Rattle.pure_definitions.specs.Declarations.Certified.{IsCertifiedTyp}
use Rattle.pure_definitions.specs.Types.Order.{IsOfSort}
use Rattle.pure_term_laws.proofs.TypingLaws.{typed-closed}
use Rattle.pure_logic.specs.Connectives.{all_of, all, imp, eq}
use Rattle.pure_logic.specs.Content.{Content, IsContent, IsBelow, IsCertifiedOf}
use Rattle.pure_logic.specs.PureContent.{pure_content}
use Rattle.pure_logic.specs.Tree as tree
use Rattle.pure_logic.specs.Tree.{Tree, hyps_of, rests_of, without, joined_terms}
use Rattle.pure_logic.specs.Concludes.{Concludes, AreRespecting}
use Rattle.pure_logic.specs.Derivable.{IsDerivableAlone}
use Rattle.pure_logic.specs.Laws.Maps.{instantiated}
use Rattle.pure_logic.proofs.ConclusionLaws.{one_conclusion}
use Rattle.pure_logic.proofs.PropositionLaws.{conclusion_is_proposition}
use Rattle.pure_logic.proofs.DerivableLaws.{derivable_alone_exactly}
use Rattle.pure_logic.proofs.MapLaws.{joined_respect, joined_instance}
use Rattle.pure_theorem.specs.Sets.{IsSetOf}
use Rattle.pure_record.specs.Lines.{Node, Axiom, Assume, AllIntro, AllElim, ImpIntro, ImpElim, Beta, Refl, Subst, Ext, Iff}
use Rattle.pure_replay.specs.Conclusion.{Conclusion, alone}
use Rattle.pure_replay.specs.Figures.{IsTypEntry, IsTermEntry, AreEntries, GivesAllIntro, GivesAllElim, GivesImpliesIntro, GivesImpliesElim}
use Rattle.pure_replay.specs.Lines.{Line, IsTreeAt, IsTreeOf, IsGoodNode, IsLine, AreLines, none, more}
use Rattle.pure_replay.specs.Inferred.{conclusions_of, Infers}
use Rattle.pure_replay.proofs.SetLaws.{set_of_none, set_of_one, each_in_set, each_in_list, set_without, set_of_both, united, nothing_in}

-- A line whose tree concludes what the line does, and rests on no promise.
pub record IsSound (Q : Content) (l : Line) : Type 0 where
  pub concludes : Concludes Q l.tree l.conclusion.prop
  pub hyps : IsSetOf term_cmp (hyps_of l.tree) l.conclusion.hyps
  pub rests : rests_of l.tree ≡ []

-- Good entries make maps that respect the content.
respecting : (Q : Content) (typs : List TypBind) (terms : List TermBind) → AreEntries Q typs terms → AreRespecting Q (typ_image typs) (joined_terms typs terms)
respecting Q typs terms h =
    joined_respect Q typs terms (each_imply (IsTypEntry Q) (λ b. IsOfSort (algebra_of Q.declarations) b.image b.sort) typs (λ b e. e.sort) h.typ_entries)
    (each_imply (IsTypEntry Q) (λ b. IsCertifiedTyp Q.declarations b.image) typs (λ b e. e.image) h.typ_entries)
    (each_imply (IsTermEntry Q) (λ b. IsCertifiedOf Q b.image b.typ) terms (λ b e. e.image) h.term_entries)

module _ (Q : Content) (lines : List Line) (sound : Each (IsSound Q) lines) where
  -- the line whose conclusion has a number
  line_at : (n : ℕ) (e : Conclusion) → slice_get (conclusions_of lines) n ≡ Some e → (l : Line) × (slice_get lines n ≡ Some l) × (l.conclusion ≡ e) × IsSound Q l
  line_at n e at = let found = slice_get-mapped (λ (l : Line). l.conclusion) lines n e at in (found.0, found.1, found.2, each_there (IsSound Q) lines n found.0 sound found.1)

  conclusion_at : (n : ℕ) (l : Line) → slice_get lines n ≡ Some l → slice_get (conclusions_of lines) n ≡ Some l.conclusion
  conclusion_at n l at = slice_get-map (λ (l : Line). l.conclusion) lines n ∙ ap (option_map (λ (l : Line). l.conclusion)) at

  -- What is inferred from conclusions is the conclusion of a line.
  pub gives-line : (node : Node) (c : Conclusion) → Infers Q (conclusions_of lines) node c → (d : Tree) × IsLine Q lines node (record { tree = d; conclusion = c })
  gives-line (Axiom name typs terms) c g = (
    tree.Axiom name (typ_image typs) (joined_terms typs terms),
    record {
      good = record {
        is_tree = refl;
        entries = g.entries;
        concludes = (g.statement, g.declared, respecting Q typs terms g.entries, ap (λ (c : Conclusion). c.prop) g.is ∙ sym (joined_instance typs terms g.statement));
      };
      hyps = set_of_none c.hyps (ap (λ (c : Conclusion). c.hyps) g.is);
    },
  )
  gives-line (Assume A) c g = (
    tree.Assume A,
    record {
      good = record { is_tree = refl; entries = tt; concludes = (g.proposition, ap (λ (c : Conclusion). c.prop) g.is) };
      hyps = set_of_one A c.hyps (ap (λ (c : Conclusion). c.hyps) g.is);
    },
  )
  gives-line (AllIntro x n) c g =
      let found = line_at n g.0 g.1 in
      let l = found.0 in
      let h : GivesAllIntro Q x l.conclusion c = subst (λ e. GivesAllIntro Q x e c) (sym found.2) g.2 in
      let s = found.3 in (
        tree.AllIntro x l.tree,
        record {
          good = record {
            is_tree = (l.tree, (l, found.1, refl), refl);
            entries = tt;
            concludes = (h.typ, l.conclusion.prop, s.concludes, h.variable, h.certified, each_in_list (λ A. ¬ Occurs x A) (hyps_of l.tree) l.conclusion.hyps s.hyps h.fresh, ap (λ (c : Conclusion). c.prop) h.is);
          };
          hyps = subst (IsSetOf term_cmp (hyps_of l.tree)) (sym (ap (λ (c : Conclusion). c.hyps) h.is)) s.hyps;
        },
      )
  gives-line (AllElim t n) c g =
      let found = line_at n g.0 g.1 in
      let l = found.0 in
      let h : GivesAllElim Q t l.conclusion c = subst (λ e. GivesAllElim Q t e c) (sym found.2) g.2 in
      let s = found.3 in (
        tree.AllElim t l.tree,
        record {
          good = record {
            is_tree = (l.tree, (l, found.1, refl), refl);
            entries = tt;
            concludes = (h.typ, h.body, subst (Concludes Q l.tree) h.quantified s.concludes, h.certified, ap (λ (c : Conclusion). c.prop) h.is);
          };
          hyps = subst (IsSetOf term_cmp (hyps_of l.tree)) (sym (ap (λ (c : Conclusion). c.hyps) h.is)) s.hyps;
        },
      )
  gives-line (ImpIntro A n) c g =
      let found = line_at n g.0 g.1 in
      let l = found.0 in
      let h : GivesImpliesIntro Q A l.conclusion c = subst (λ e. GivesImpliesIntro Q A e c) (sym found.2) g.2 in
      let s = found.3 in (
        tree.ImpliesIntro A l.tree,
        record {
          good = record {
            is_tree = (l.tree, (l, found.1, refl), refl);
            entries = tt;
            concludes = (l.conclusion.prop, s.concludes, h.proposition, ap (λ (c : Conclusion). c.prop) h.is);
          };
          hyps = set_without A (hyps_of l.tree) l.conclusion.hyps c.hyps s.hyps (ap (λ (c : Conclusion). c.hyps) h.is);
        },
      )
  gives-line (ImpElim m n) c g =
      let first = line_at m g.0 g.1 in
      let second = line_at n g.2.0 g.2.1 in
      let k = first.0 in
      let l = second.0 in
      let h : GivesImpliesElim k.conclusion l.conclusion c = subst (λ e. GivesImpliesElim e l.conclusion c) (sym first.2) (subst (λ f. GivesImpliesElim g.0 f c) (sym second.2) g.2.2) in
      let s = first.3 in
      let t = second.3 in (
        tree.ImpliesElim k.tree l.tree,
        record {
          good = record {
            is_tree = (k.tree, l.tree, (k, first.1, refl), (l, second.1, refl), refl);
            entries = tt;
            concludes = (l.conclusion.prop, subst (Concludes Q k.tree) h.is s.concludes, t.concludes);
          };
          hyps = set_of_both (hyps_of k.tree) (hyps_of l.tree) k.conclusion.hyps l.conclusion.hyps c.hyps s.hyps t.hyps h.hyps;
        },
      )
  gives-line (Beta redex) c g = (
    tree.Beta redex,
    record {
      good = record { is_tree = refl; entries = tt; concludes = (g.typ, g.range, g.body, g.argument, g.is_redex, g.certified, ap (λ (c : Conclusion). c.prop) g.is) };
      hyps = set_of_none c.hyps (ap (λ (c : Conclusion). c.hyps) g.is);
    },
  )
  gives-line (Refl t) c g = (
    tree.Refl t,
    record {
      good = record { is_tree = refl; entries = tt; concludes = (g.typ, g.certified, ap (λ (c : Conclusion). c.prop) g.is) };
      hyps = set_of_none c.hyps (ap (λ (c : Conclusion). c.hyps) g.is);
    },
  )
  gives-line (Subst p x y) c g = (
    tree.Subst p x y,
    record {
      good = record { is_tree = refl; entries = tt; concludes = (g.typ, g.body, g.is_abstraction, g.certified, g.left, g.right, ap (λ (c : Conclusion). c.prop) g.is) };
      hyps = set_of_none c.hyps (ap (λ (c : Conclusion). c.hyps) g.is);
    },
  )
  gives-line (Ext f g) c h = (
    tree.Ext f g,
    record {
      good = record { is_tree = refl; entries = tt; concludes = (h.domain, h.range, h.left, h.right, ap (λ (c : Conclusion). c.prop) h.is) };
      hyps = set_of_none c.hyps (ap (λ (c : Conclusion). c.hyps) h.is);
    },
  )
  gives-line (Iff A B) c g = (
    tree.Iff A B,
    record {
      good = record { is_tree = refl; entries = tt; concludes = (g.left, g.right, ap (λ (c : Conclusion). c.prop) g.is) };
      hyps = set_of_none c.hyps (ap (λ (c : Conclusion). c.hyps) g.is);
    },
  )

  -- A node whose tree concludes infers something from the conclusions.
  pub line-gives : IsContent Q → (node : Node) (d : Tree) (A : Term) → IsGoodNode Q lines node d A → (c : Conclusion) × Infers Q (conclusions_of lines) node c
  line-gives q (Axiom name typs terms) d A h =
      let k : Concludes Q (tree.Axiom name (typ_image typs) (joined_terms typs terms)) A = subst (λ d. Concludes Q d A) h.is_tree h.concludes in
      (alone (instantiated typs terms k.0), record { entries = h.entries; statement = k.0; declared = k.1; is = refl })
  line-gives q (Assume B) d A h =
      let k : Concludes Q (tree.Assume B) A = subst (λ d. Concludes Q d A) h.is_tree h.concludes in
      (record { hyps = B ∷ []; prop = B }, record { proposition = k.0; is = refl })
  line-gives q (AllIntro x n) d A h =
      let at = h.is_tree in
      let l : Line = at.1.0 in
      let s = each_there (IsSound Q) lines n l sound at.1.1 in
      let k : Concludes Q (tree.AllIntro x l.tree) A = subst (λ d. Concludes Q d A) (at.2 ∙ ap (tree.AllIntro x) at.1.2) h.concludes in (
        record { hyps = l.conclusion.hyps; prop = all_of k.0 (abstract_over l.conclusion.prop x) },
        (l.conclusion, conclusion_at n l at.1.1, record { variable = k.3; typ = k.0; certified = k.4; fresh = each_in_set (λ A. ¬ Occurs x A) (hyps_of l.tree) l.conclusion.hyps s.hyps k.5; is = refl }),
      )
  line-gives q (AllElim t n) d A h =
      let at = h.is_tree in
      let l : Line = at.1.0 in
      let s = each_there (IsSound Q) lines n l sound at.1.1 in
      let k : Concludes Q (tree.AllElim t l.tree) A = subst (λ d. Concludes Q d A) (at.2 ∙ ap (tree.AllElim t) at.1.2) h.concludes in (
        record { hyps = l.conclusion.hyps; prop = subst_bound k.1 t },
        (l.conclusion, conclusion_at n l at.1.1, record { typ = k.0; body = k.1; quantified = one_conclusion Q q l.tree l.conclusion.prop (all k.0 k.1) s.concludes k.2; certified = k.3; is = refl }),
      )
  line-gives q (ImpIntro B n) d A h =
      let at = h.is_tree in
      let l : Line = at.1.0 in
      let k : Concludes Q (tree.ImpliesIntro B l.tree) A = subst (λ d. Concludes Q d A) (at.2 ∙ ap (tree.ImpliesIntro B) at.1.2) h.concludes in
      (record { hyps = without B l.conclusion.hyps; prop = imp B l.conclusion.prop }, (l.conclusion, conclusion_at n l at.1.1, record { proposition = k.2; is = refl }))
  line-gives q (ImpElim m n) d A h =
      let at = h.is_tree in
      let left : Line = at.2.0 in
      let right : Line = at.3.0 in
      let s = each_there (IsSound Q) lines m left sound at.2.1 in
      let t = each_there (IsSound Q) lines n right sound at.3.1 in
      let k : Concludes Q (tree.ImpliesElim left.tree right.tree) A = subst (λ d. Concludes Q d A) (at.4 ∙ (λ i. tree.ImpliesElim (at.2.2 i) (at.3.2 i))) h.concludes in
      let premise : right.conclusion.prop ≡ k.0 = one_conclusion Q q right.tree right.conclusion.prop k.0 t.concludes k.2 in (
        record { hyps = sorted_merge term_cmp true left.conclusion.hyps right.conclusion.hyps; prop = A },
        (
          left.conclusion,
          conclusion_at m left at.2.1,
          (
            right.conclusion,
            conclusion_at n right at.3.1,
            record {
              is = one_conclusion Q q left.tree left.conclusion.prop (imp k.0 A) s.concludes k.1 ∙ ap (λ B. imp B A) (sym premise);
              hyps = united left.conclusion.hyps right.conclusion.hyps s.hyps.ascends t.hyps.ascends;
            },
          ),
        ),
      )
  line-gives q (Beta redex) d A h =
      let k : Concludes Q (tree.Beta redex) A = subst (λ d. Concludes Q d A) h.is_tree h.concludes in
      (alone (eq k.1 redex (subst_bound k.2 k.3)), record { typ = k.0; range = k.1; body = k.2; argument = k.3; is_redex = k.4; certified = k.5; is = refl })
  line-gives q (Refl t) d A h =
      let k : Concludes Q (tree.Refl t) A = subst (λ d. Concludes Q d A) h.is_tree h.concludes in
      (alone (eq k.0 t t), record { typ = k.0; certified = k.1; is = refl })
  line-gives q (Subst p x y) d A h =
      let k : Concludes Q (tree.Subst p x y) A = subst (λ d. Concludes Q d A) h.is_tree h.concludes in
      (alone (imp (eq k.0 x y) (imp (subst_bound k.1 x) (subst_bound k.1 y))), record { typ = k.0; body = k.1; is_abstraction = k.2; certified = k.3; left = k.4; right = k.5; is = refl })
  line-gives q (Ext f g) d A h =
      let k : Concludes Q (tree.Ext f g) A = subst (λ d. Concludes Q d A) h.is_tree h.concludes in
      (alone _, record { domain = k.0; range = k.1; left = k.2; right = k.3; is = refl })
  line-gives q (Iff B C) d A h =
      let k : Concludes Q (tree.Iff B C) A = subst (λ d. Concludes Q d A) h.is_tree h.concludes in
      (alone (imp (imp B C) (imp (imp C B) (eq prop B C))), record { left = k.0; right = k.1; is = refl })

  -- The tree of a node has no promise.
  tree_rests : (n : ℕ) (e : Tree) → IsTreeAt lines n e → rests_of e ≡ []
  tree_rests n e at = ap rests_of at.2 ∙ (each_there (IsSound Q) lines n at.0 sound at.1).rests

  node_rests : (node : Node) (d : Tree) → IsTreeOf lines node d → rests_of d ≡ []
  node_rests (Axiom name typs terms) d e = ap rests_of e
  node_rests (Assume A) d e = ap rests_of e
  node_rests (AllIntro x n) d at = ap rests_of at.2 ∙ tree_rests n at.0 at.1
  node_rests (AllElim t n) d at = ap rests_of at.2 ∙ tree_rests n at.0 at.1
  node_rests (ImpIntro A n) d at = ap rests_of at.2 ∙ tree_rests n at.0 at.1
  node_rests (ImpElim m n) d at = ap rests_of at.4 ∙ ((λ i. tree_rests m at.0 at.2 i ++ rests_of at.1) ∙ tree_rests n at.1 at.3)
  node_rests (Beta t) d e = ap rests_of e
  node_rests (Refl t) d e = ap rests_of e
  node_rests (Subst p x y) d e = ap rests_of e
  node_rests (Ext f g) d e = ap rests_of e
  node_rests (Iff A B) d e = ap rests_of e

  pub sound_line : (node : Node) (l : Line) → IsLine Q lines node l → IsSound Q l
  sound_line node l h = record { concludes = h.good.concludes; hyps = h.hyps; rests = node_rests node l.tree h.good.is_tree }

pub sound_lines : (Q : Content) (nodes : List Node) (lines : List Line) → AreLines Q nodes lines → Each (IsSound Q) lines
sound_lines Q nodes all none = tt
sound_lines Q nodes all (more {earlier} {lines} node l h is fits nodes_are lines_are) =
    let sound = sound_lines Q earlier lines h in
    subst (Each (IsSound Q)) (sym lines_are) (each-append (IsSound Q) lines (l ∷ []) sound (sound_line Q lines sound node l is, tt))

-- What lines conclude is closed.
pub closed_lines : (Q : Content) → IsContent Q → IsBelow pure_content Q → (lines : List Line) → Each (IsSound Q) lines → Each (λ c. IsClosed c.prop) (conclusions_of lines)
closed_lines Q q above [] h = tt
closed_lines Q q above (l ∷ ls) h =
    (typed-closed l.conclusion.prop prop (conclusion_is_proposition Q q above l.tree l.conclusion.prop h.0.concludes).0.typed, closed_lines Q q above ls h.1)

-- What a line concludes from no hypotheses is derivable alone.
pub sound-derivable : (Q : Content) (l : Line) → IsSound Q l → l.conclusion.hyps ≡ [] → IsDerivableAlone Q l.conclusion.prop
sound-derivable Q l s e = (derivable_alone_exactly Q l.conclusion.prop).1 (l.tree, s.concludes, nothing_in (hyps_of l.tree) l.conclusion.hyps s.hyps e, s.rests)
