-- What settling rests on: the facts that each operation needs, out of soundness and the refusals; and the steps over plain values.
pub mod Facts
pub mod Settled
