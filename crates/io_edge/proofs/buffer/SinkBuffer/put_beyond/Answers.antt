use Rattle.std.proofs.Common.{◌≡◌, ℕ, [], ◌++◌, Ok, ap, ◌∙◌}
use Rattle.arrayvec.specs.ArrayVec.{ArrayVec}
use Rattle.io_edge.specs.Streamed.{Streams}
use Rattle.io_edge.proofs.Streaming.{all_wait, as_it_lies, emptied, then}
use Rattle.io_edge.proofs.buffer.SinkBuffer.put_beyond.Goals as goal
use Rattle.io_edge.proofs.buffer.SinkBuffer.put_beyond.Goals.{in-Ok, in-Err}

pub returns-clause-streams : goal.returns-clause-streams
returns-clause-streams g c =
    let first : Streams (g.K.Sink.gone c.args.sink.now) (g.K.Sink.gone c.flush.new.sink) c.args.self.now [] [] (Ok tt) = emptied _ _ _ c.in_ok-flush.ensures.ok in
    let nothing : c.self.inside.waiting.items ≡ [] = c.self.view_is ∙ c.flush.ensures.empty in
    elim c.match-try_extend_from_slice.branch [
      | in-Ok w ↦ rw (w.sink-is, w.result-is) (then first (all_wait _ [] c.args.piece.now _ _ (w.in-Ok.ensures.ok ∙ ap (λ before. before ++ c.args.piece.now) nothing)))
      | in-Err w ↦
          let still : c.try_extend_from_slice.new.self.items ≡ [] = ap (λ (vec : ArrayVec ℕ). vec.items) w.in-Err.ensures.err ∙ nothing in
          rw (w.sink-is, w.result-is, still) (then first (as_it_lies _ _ c.args.piece.now w.put_all.result w.put_all.ensures.ok w.put_all.ensures.prefix))
    ]
