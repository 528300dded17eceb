-- What the laws of a delivery take from the message layer, besides that what is written reads back.
use mathlib.Core.Path.{◌≡◌, sym}
use mathlib.Core.List.{List}
use Prim.Native.Nat.{ℕ, ◌*◌, ◌<◌, ◌≤◌}
use native.Mathlib.Omega.{arith}
use lib.ListN.{drop, length-drop}
use lib.Seq.{take_all}
use Rattle.std.specs.Prelude.{Ok}
use Rattle.message.specs.Layout.{id_len, most_references, references_at}
use Rattle.message.specs.Reader.{reading}
use Rattle.message.specs.Demands.{references_in}
use Rattle.message.specs.declared.AcceptorMessage.{AcceptorMessage}
use Rattle.message.specs.declared.Message.TheVariants.{OfAcceptor}
use Rattle.message.proofs.Checks.{of_acceptor}

module _ (s : List ℕ) (m : AcceptorMessage) (reads : reading s ≡ Ok (OfAcceptor m)) where
  -- an acceptor message has 1 to 128 references
  pub counted : (0 < m.count) × (m.count ≤ most_references)
  counted = let c = (of_acceptor s m reads).0.counted in (c.some, c.most)

  -- and nothing behind them
  pub references_end : drop (references_at m.previous) s ≡ references_in s m.previous m.count
  references_end =
      let long = (of_acceptor s m reads).0.long in
      sym (take_all (id_len * m.count) (drop (references_at m.previous) s) (omega (arith, length-drop (references_at m.previous) s)))
