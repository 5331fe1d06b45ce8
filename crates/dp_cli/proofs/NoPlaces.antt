-- A place in place of none.
use Rattle.std.proofs.Common.{pos}
use Rattle.dp_search.specs.declared.place.Place.{Place}

abbrev pub no_place : Place
no_place = record { agent = 0; class = 0; weight = pos 0; spread = 0 }
