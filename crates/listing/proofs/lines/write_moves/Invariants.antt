use Rattle.std.proofs.Common.{◌≡◌, ◌++◌, map, take, string_bytes}
use Rattle.std.specs.List.{flat_map}
use Rattle.moves.specs.Orders.{placed_of}
use Rattle.listing.specs.Lines.{move_line}
use Rattle.listing.proofs.lines.write_moves.Given as goal

abbrev pub invariant-loop-placed : goal.invariant-loop-placed
invariant-loop-placed l =
    string_bytes l.text ≡ string_bytes l.initial.text ++ flat_map move_line (map placed_of (take l.placed-index l.moves))
