-- Walks with what they leave of steps and room: one after another, of a part as of the whole, and one contraction.
use Rattle.std.proofs.Common.{◌≡◌, ℕ, ◌+◌, refl, subst, arith}
use Rattle.pure_definitions.specs.Terms.Term.{Term}
use Rattle.pure_norm.specs.declared.contract.Walk.{Walk}
use Rattle.pure_norm.specs.declared.fault.NormFault.{NormFault}
use Rattle.pure_norm.specs.declared.fault.NormFault.TheVariants.{Steps, Big, Memory}
use Rattle.pure_norm.specs.Walk.{Until, Pauses, Fits, Leads, nodes_at, CanWalk, Walked, Fails, Contracted, CannotContract}
use Rattle.pure_norm.proofs.LeadsLemmas.{leads-chain, leads-closed, IsFrame, fits-part, leads-whole}

pub walked-chain : (until : Until) (deep : ℕ) (before middle now : Walk) (t u v : Term) → Walked until deep before middle t u → Walked until deep middle now u v → Walked until deep before now t v
walked-chain until deep before middle now t u v h g = record {
  taken = h.taken + g.taken;
  counted = (let a = h.counted in let b = g.counted in omega arith);
  kept = (let a = h.kept in let b = g.kept in omega arith);
  shallow = g.shallow;
  leads = leads-chain until (nodes_at before t) deep h.taken g.taken (h.taken + g.taken) t u v refl h.leads (subst (λ n. Leads until n deep u g.taken v) h.kept g.leads);
}

pub fails-chain : (until : Until) (deep : ℕ) (before middle : Walk) (t u : Term) (fault : NormFault) → Walked until deep before middle t u → Fails until deep middle u fault → Fails until deep before t fault
fails-chain until deep before middle t u Big h g = record {
  taken = h.taken + g.taken;
  last = g.last;
  in_time = (let a = h.counted in let b = g.in_time in omega arith);
  leads = leads-chain until (nodes_at before t) deep h.taken g.taken (h.taken + g.taken) t u g.last refl h.leads (subst (λ n. Leads until n deep u g.taken g.last) h.kept g.leads);
  large = subst (λ n. ¬ Fits n deep g.last) h.kept g.large;
}
fails-chain until deep before middle t u Steps h g = record {
  taken = h.taken + g.taken;
  next = g.next;
  more = (let a = h.counted in let b = g.more in omega arith);
  leads = leads-chain until (nodes_at before t) deep h.taken g.taken (h.taken + g.taken) t u g.next refl h.leads (subst (λ n. Leads until n deep u g.taken g.next) h.kept g.leads);
}
fails-chain until deep before middle t u Memory h g = tt

module _ (inner outer : Until) (deep more : ℕ) (whole : Term → Term) (frame : IsFrame inner outer deep more whole) where
  nodes-whole : (walk : Walk) (t : Term) → nodes_at walk (whole t) ≡ more + nodes_at walk t
  nodes-whole walk t = let size = frame.size t in omega arith

  pub walked-whole : (before now : Walk) (t u : Term) → Walked inner (deep + 1) before now t u → Walked outer deep before now (whole t) (whole u)
  walked-whole before now t u h = record {
    taken = h.taken;
    counted = h.counted;
    kept = (let a = nodes-whole before t in let b = nodes-whole now u in let c = h.kept in omega arith);
    shallow = frame.up u h.shallow;
    leads = leads-whole inner outer deep more whole frame (nodes_at before t) (nodes_at before (whole t)) h.taken t u (nodes-whole before t) h.leads;
  }

  pub fails-whole : (before : Walk) (t : Term) (fault : NormFault) → Fails inner (deep + 1) before t fault → Fails outer deep before (whole t) fault
  fails-whole before t Big h = record {
    taken = h.taken;
    last = whole h.last;
    in_time = h.in_time;
    leads = leads-whole inner outer deep more whole frame (nodes_at before t) (nodes_at before (whole t)) h.taken t h.last (nodes-whole before t) h.leads;
    large = λ fits. h.large (fits-part inner outer deep more whole frame (nodes_at before t) (nodes_at before (whole t)) h.last (nodes-whole before t) fits);
  }
  fails-whole before t Steps h = record {
    taken = h.taken;
    next = whole h.next;
    more = h.more;
    leads = leads-whole inner outer deep more whole frame (nodes_at before t) (nodes_at before (whole t)) h.taken t h.next (nodes-whole before t) h.leads;
  }
  fails-whole before t Memory h = tt

-- where a walk can begin, the term fits
pub can_walk-fits : (deep : ℕ) (walk : Walk) (t : Term) → CanWalk deep walk t → Fits (nodes_at walk t) deep t
can_walk-fits deep walk t h = record { few = omega arith; shallow = h.shallow }

pub can_walk-after : (until : Until) (deep : ℕ) (before now : Walk) (t u : Term) → CanWalk deep before t → Walked until deep before now t u → CanWalk deep now u
can_walk-after until deep before now t u h g = record {
  few = (let a = g.kept in let b = h.few in omega arith);
  shallow = g.shallow;
  closed = leads-closed until (nodes_at before t) deep g.taken deep t u g.leads h.closed;
}

-- a walk that takes no step
pub walked-nowhere : (until : Until) (deep : ℕ) (walk : Walk) (t : Term) → CanWalk deep walk t → Walked until deep walk walk t t
walked-nowhere until deep walk t h = record { taken = 0; counted = omega arith; kept = refl; shallow = h.shallow; leads = refl }

-- One contraction is a walk of one step.
pub walked-contracted : (until : Until) (deep : ℕ) (before now : Walk) (t u : Term) → ¬ Pauses until t → CanWalk deep before t → Contracted deep before now t u → Walked until deep before now t u
walked-contracted until deep before now t u goes can h = record {
  taken = 1;
  counted = (let a = h.counted in omega arith);
  kept = h.kept;
  shallow = h.shallow;
  leads = (can_walk-fits deep before t can, goes, (u, h.step, refl));
}

pub fails-contract : (until : Until) (deep : ℕ) (before : Walk) (t : Term) (fault : NormFault) → ¬ Pauses until t → CanWalk deep before t → CannotContract deep before t fault → Fails until deep before t fault
fails-contract until deep before t Big goes can h = record {
  taken = 1;
  last = h.0;
  in_time = (let a = h.3 in omega arith);
  leads = (can_walk-fits deep before t can, goes, (h.0, h.1, refl));
  large = h.2;
}
fails-contract until deep before t Steps goes can h = record {
  taken = 1;
  next = h.0;
  more = (let a = h.2 in omega arith);
  leads = (can_walk-fits deep before t can, goes, (h.0, h.1, refl));
}
fails-contract until deep before t Memory goes can h = tt
