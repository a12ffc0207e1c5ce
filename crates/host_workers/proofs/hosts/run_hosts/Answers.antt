use Rattle.std.proofs.Common.{length, ap, subst, ◌∙◌, arith}
use Rattle.page_claims.specs.Values.{PassValue as ClaimValue}
use Rattle.board_ends.specs.Finishes.{Finishes}
use Rattle.board_ends.proofs.Ending.{stuck-at-rest}
use Rattle.host_workers.proofs.States.{as-dealt}
use Rattle.host_workers.proofs.hosts.run_hosts.Goals as goal

pub gather-pass-requires-clause-worked : goal.gather-pass-requires-clause-worked
gather-pass-requires-clause-worked g c =
    let run =
    as-dealt g.W.Wire.streak c.args.site.now.claims.now c.work_all.new.wires c.args.pass (length c.args.wires.now) c.as_mut_slice-states.result.now c.work_all.new.states
    c.requires.wires.0 c.work_all.ensures.len (λ k count. c.as_mut_slice-states.ensures.value ∙ c.deal-claiming.ensures.states k count)
    c.work_all.ensures.worked in
    (0, c.args.pass, run.0, c.requires.board, run.1, run.2)

pub returns : goal.returns
returns g c =
    let run =
    as-dealt g.W.Wire.streak c.args.site.now.claims.now c.work_all.new.wires c.args.pass (length c.args.wires.now) c.as_mut_slice-states.result.now c.work_all.new.states
    c.requires.wires.0 c.work_all.ensures.len (λ k count. c.as_mut_slice-states.ensures.value ∙ c.deal-claiming.ensures.states k count)
    c.work_all.ensures.worked in
    let all = c.gather-pass.ensures.worked 0 c.args.pass run.0 run.1 run.2 in
    record {
      worked = all.worked;
      none = all.none;
      claims = record {
        table = ap (λ (p : ClaimValue). p.table) c.join.ensures.both ∙ ap (λ (p : ClaimValue). p.table) c.deal-claiming.ensures.left;
        parts = omega (
          arith,
          ap (λ (p : ClaimValue). p.parts) c.join.ensures.both,
          ap (λ (p : ClaimValue). p.parts) c.deal-claiming.ensures.left,
          c.gather-pass.ensures.parts,
          c.work_all.ensures.len,
          c.requires.shares,
        );
      };
      finish = all.end;
      rests = λ same. stuck-at-rest c.args.pass c.gather-pass.result.0 all.worked (subst (Finishes c.gather-pass.result.0) same all.end);
      done = all.are_done;
      wire = all.blames;
      seeds = c.work_all.ensures.seeds;
      len = c.work_all.ensures.len;
    }

pub join-requires : goal.join-requires
join-requires g c = record {
  here = ap (λ (p : ClaimValue). p.table) c.deal-claiming.ensures.left ∙ c.requires.claims;
  other_here = c.gather-pass.ensures.claims;
}
