use Rattle.std.proofs.Common.{rules, tests}
use Rattle.search.proofs.Scans.{of-nodes, by-nodes, by-costly, by-parallel}
use Rattle.search.proofs.scan.Working.at_places.Goals as goal

pub at_nodes-requires : goal.at_nodes-requires
at_nodes-requires c = (c.requires.counted, of-nodes c.args.k c.requires.of_table.0 c.requires.of_table.1 (search (rules, tests)) (search (rules, tests)))

pub returns-in-4 : goal.returns-in-4
returns-in-4 c = (by-costly _ c.args.k c.in-4.is c.costly.ensures.0, c.costly.ensures.1)

pub returns-in-7 : goal.returns-in-7
returns-in-7 c = (by-parallel _ c.args.k c.in-7.is c.parallel.ensures, c.requires.known)

pub returns-in_default : goal.returns-in_default
returns-in_default c = (by-nodes _ c.args.k (of-nodes c.args.k c.requires.of_table.0 c.requires.of_table.1 (search (rules, tests)) (search (rules, tests))) c.at_nodes.ensures, c.requires.known)
