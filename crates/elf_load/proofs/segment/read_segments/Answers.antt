use Rattle.std.proofs.Common.{◌≡◌, ℕ, ◌+◌, ◌*◌, ◌<◌, false, List, [], ◌∷◌, ◌++◌, Some, None, is_ok, refl, sym, ap, ◌∙◌, cond, arith}
use Rattle.std.proofs.lemmas.Bool.{cond-true}
use Rattle.std.specs.List.{list_any}
use Rattle.elf_load.specs.Elf.{places, loads_among, non_empty, is_overfull, segment_at}
use Rattle.elf_load.specs.declared.segment.Segment.{Segment}
use Rattle.elf_load.proofs.Loads.{loads_of_header, loads_more_other, loads_more_load, overfull_stays, overfull_push, exact_push, non_empty_push, non_empty_skip}
use Rattle.elf_load.proofs.segment.read_segments.Goals as goal
use Rattle.elf_load.proofs.segment.read_segments.Goals.{then-segment-gt0+in_ok-map_err, else-segment-gt0}

pub loop-n-init : goal.loop-n-init
unfolding loads_among
loop-n-init c = record { placed = c.new-segments.ensures.items; exact = refl }

pub loop-n-preserved-then-read_word-ne-PT_LOAD : goal.loop-n-preserved-then-read_word-ne-PT_LOAD
loop-n-preserved-then-read_word-ne-PT_LOAD c =
    let same = loads_more_other c.args.bytes.now c.args.header.now.table c.loop-n.n _ refl (λ e. c.if-read_word-ne-PT_LOAD.true (c.read_word.ensures ∙ e)) in
    rw same c.loop-n.invariant

pub returns-then-segment-clause-overfull : goal.returns-then-segment-clause-overfull
returns-then-segment-clause-overfull c =
    let file = c.args.bytes.now in
    let table = c.args.header.now.table in
    let more = loads_more_load file table c.loop-n.n _ refl (sym c.read_word.ensures ∙ c.if-read_word-ne-PT_LOAD.false) in
    let over = overfull_push (loads_among file (places table c.loop-n.n)) c.read-segment.result c.if-segment.true in
    ap (λ found. cond found (Some 8) None)
    (ap (list_any is_overfull) (loads_of_header file c.args.header.now c.requires)
    ∙ overfull_stays file table (c.loop-n.n + 1) c.args.header.now.count (omega arith)
    (ap (list_any is_overfull) more ∙ ap (λ s. list_any is_overfull (loads_among file (places table c.loop-n.n) ++ s ∷ [])) (sym c.read-segment.ensures) ∙ over))

pub loop-n-preserved : goal.loop-n-preserved
loop-n-preserved c =
    let file = c.args.bytes.now in
    let table = c.args.header.now.table in
    let sofar = loads_among file (places table c.loop-n.n) in
    let more : loads_among file (places table (c.loop-n.n + 1)) ≡ sofar ++ c.read-segment.result ∷ [] =
    loads_more_load file table c.loop-n.n _ refl (sym c.read_word.ensures ∙ c.if-read_word-ne-PT_LOAD.false)
    ∙ ap (λ s. sofar ++ s ∷ []) (sym c.read-segment.ensures) in
    let exact = exact_push sofar c.read-segment.result c.loop-n.invariant.exact c.if-segment.false in
    elim c.if-segment-gt0.branch [
      | then-segment-gt0+in_ok-map_err w ↦ (
          let pushed : w.push.new.self.items ≡ c.loop-n.segments.items ++ c.read-segment.result ∷ [] =
          w.push.ensures.items ∙ cond-true _ _ _ (sym w.map_err.ensures.variant ∙ ap is_ok w.in_ok-map_err.was) in
          rw more (record {
            placed =
                ap (λ v. v.items) w.segments-is ∙ pushed ∙ ap (λ items. items ++ c.read-segment.result ∷ []) c.loop-n.invariant.placed
                ∙ sym (non_empty_push sofar c.read-segment.result w.if-segment-gt0.true);
            exact = exact;
          }))
      | else-segment-gt0 w ↦ rw more (record {
        placed =
            ap (λ v. v.items) w.segments-is ∙ c.loop-n.invariant.placed
            ∙ sym (non_empty_skip sofar c.read-segment.result (omega arith));
        exact = exact;
      })
    ]
