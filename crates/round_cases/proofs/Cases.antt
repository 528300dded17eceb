-- The starred cases of document 01 hold: one theorem over the table, computed on the definitions with SHA-256 as the id rule.
use Rattle.base.specs.Tests.{any, all, filter, below}
use Rattle.base.specs.Sets.{has, contains, apart}
use Rattle.base.specs.Bytes.{be, bytes}
use Rattle.base.specs.Ballots.{value_of}
use Rattle.digest.specs.Constants.{constants}
use Rattle.digest.specs.Preprocessing.{padding, padded, words}
use Rattle.digest.specs.Sha256.{next_word, extended, schedule, T₁, T₂, round, rounds, added, compressed, hash, joined, sha256}
use Rattle.graph.specs.LearnerGraph.{is_quorum, is_safe, safe_without, common, valid_at, valid, condensed_at, condensed}
use Rattle.graphfile.specs.File.{last, read_masks, read_list, read_lists, read_rows, read_graph, contents, graph_said}
use Rattle.graph.specs.Memory.{triangle, pair_list, list_of}
use Rattle.graphfile.specs.Arrays.{hold_all, hold_rows, held_of}
use Rattle.message.specs.Order.{before, ascending}
use Rattle.protocol.specs.Ids.{same_id, same_previous}
use Rattle.protocol.specs.Message.{listed, id_of, signer, previous, references, is_proposal, proposed, is1b, is2a, signers, tran, trans, largest, ballot, value, forks, caught_in, caught}
use Rattle.protocol.specs.Learners.{con, buried_by, con2as_by, fresh_by, backers_by, lrns_by, height, heights, lrns_in, lrns}
use Rattle.protocol.specs.WellFormed.{is_previous, linked, chained, alone, formed1b, same_learners, is_repeat_of, repeats, formed2a, well_formed}
use Rattle.protocol.specs.Report as protocolReport
use Rattle.protocol.specs.Table.{at, tabulate, gather, node_by, tree_in, tree, messages}
use Rattle.round.specs.Holdings.{lowest, place_of}
use Rattle.round.specs.Handed.{list_fits, graph_fits, own_fits, refers_back, message_fits, fits}
use Rattle.round.specs.Opening.{opened}
use Rattle.round.specs.Rows.{ids_from, lacks, unchained, proposal_rows, acceptor_rows, first_of}
use Rattle.round.specs.Reply as reply
use Rattle.round.specs.Delivery.{delivery, processed, hold}
use Rattle.round.specs.Report.{reported}
use Rattle.round_cases.specs.Cases.{G0, four, thirds, G1, not_valid, not_condensed, proposal_for, P, buffer, in_order, start, deliver, sample1, z1, sample2, z2, sample3, vote, heard, heard2, bit, is, cases, as_expected, CasesHold}

pub cases_hold : CasesHold
unfolding G0 four thirds G1 not_valid not_condensed proposal_for P buffer in_order start deliver sample1 z1 sample2 z2 sample3 vote heard heard2 bit is cases as_expected any all filter below has contains apart be bytes is_quorum is_safe safe_without common valid_at valid condensed_at condensed last read_masks read_list read_lists read_rows read_graph contents graph_said triangle pair_list list_of hold_all hold_rows held_of before ascending same_id same_previous listed id_of signer previous references is_proposal proposed is1b is2a signers tran trans largest ballot value_of value forks caught_in caught con buried_by con2as_by fresh_by backers_by lrns_by height heights lrns_in lrns is_previous linked chained alone formed1b same_learners is_repeat_of repeats formed2a well_formed at tabulate gather node_by tree_in tree lowest place_of list_fits graph_fits own_fits refers_back message_fits fits ids_from lacks unchained proposal_rows acceptor_rows first_of delivery processed hold opened constants padding padded words next_word extended schedule T₁ T₂ round rounds added compressed hash sha256 joined protocolReport.votes protocolReport.decides protocolReport.deciding protocolReport.least protocolReport.others protocolReport.against protocolReport.verdict protocolReport.report messages reported reply.chosen reply.insert reply.chosen_of reply.joined reply.reply_bytes reply.is_sent
cases_hold = tt
