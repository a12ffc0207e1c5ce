-- Bytes on their way to a sink: some are out, and the rest waits.
use Rattle.std.specs.Prelude.{◌≡◌, ℕ, List, [], ◌++◌, Option, Result, OnOk, OnErr}
use Rattle.io_edge.specs.declared.outside.WriteFault.{WriteFault}
use Rattle.io_edge.specs.Outside.{appended, IsPrefixGone}

-- a first part of the bytes has gone out, and the rest waits
pub record IsPartGone (old new : Option (List ℕ)) (bytes waiting : List ℕ) : Type 0 where
  pub part : List ℕ
  pub gone : new ≡ appended old part
  pub rest : part ++ waiting ≡ bytes

-- some bytes waited, and a text was given to go behind them: of these a first part has gone out, and the rest
-- waits. Or up to a fault a prefix of them is out, and nothing waits
pub record Streams (old new : Option (List ℕ)) (before text after : List ℕ) (r : Result Unit WriteFault) : Type 0 where
  pub ok : OnOk r (IsPartGone old new (before ++ text) after)
  pub prefix : OnErr r (IsPrefixGone old new (before ++ text))
  pub empty : OnErr r (after ≡ [])
