-- Where values lie in the value of a place, of code, as a pure value.
use Rattle.isle_check_places.specs.declared.under.Under.{Under}
use Rattle.isle_check_places.specs.declared.under.Under.TheVariants as unders
use Rattle.isle_check_places.specs.Under.{UnderNode, same, arguments, fields, parts}

abbrev pub under_of : Under → UnderNode
under_of unders.Same = same
under_of unders.Arguments = arguments
under_of (unders.Fields variant) = fields variant.now
under_of unders.Parts = parts
