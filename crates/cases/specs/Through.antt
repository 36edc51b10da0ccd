-- What the cases compute through, by what is computed. A definition that is named here is opened, and nothing is said of it.
use Rattle.leb128.specs.Leb128.{uleb128, chunks, encoded}
use Rattle.crc32.specs.Crc32.{plus, divided, bits, message, complement_first, number, crc32_of}
use Rattle.utf8.specs.Utf8.{sequences, starts, first_of, char_length, characters, utf8, octets, value, decoded_from, decoded}
use Rattle.segment.specs.Names.{same, precedes}
use Rattle.segment.specs.Texts.{ends_fit, names}
use Rattle.segment.specs.Metadata.{read_document, read_documents, metadata, length_of}
use Rattle.segment.specs.Directory.{part, read_list_range, read_entry, read_entries, directory, entry_of}
use Rattle.segment.specs.Postings.{read_value, read_position, read_positions, read_head, read_posting, read_postings, all_postings, decode}
use Rattle.segment.specs.Postings.{total_positions}
use Rattle.segment.specs.Opening.{ranges, sections, section_checksum, checksums, contents, open_segment}
use Rattle.calls.specs.Lookups.{well_named, postings_of, positions_of}
use Rattle.calls.specs.Reads.{document_lengths, document_len, df, term_list, docs_with_term, term_postings, positions, joined_positions}
use Rattle.calls.specs.Given.{given, laid_flat}
use Rattle.calls.specs.Checks.{small, shaped, check_documents, position_checks, check_positions, check_posting, check_postings, check_name}
use Rattle.calls.specs.Checks.{check_terms, check_given, check_lists}
use Rattle.segment.specs.Written.{metadata_bytes, position_bytes, posting_bytes, postings_bytes, directory_bytes, name_bytes, lists_bytes}
use Rattle.segment.specs.Written.{segment_bytes}
use Rattle.calls.specs.Writing.{write, write_records}
use Rattle.segment.specs.Contents.{decode_all, decode_segment}
use Rattle.calls.specs.Whole.{whole_segment}
use Rattle.calls.specs.Listing.{digits, column, name_column, count_line, document_line, entry_line, document_lines, entry_lines}
use Rattle.calls.specs.Listing.{refusal_line, listable, listing}
use Rattle.calls.specs.Sheet.{right_justified, marks, heading, sound_line, sound_lines, sheet, bar_sheet, sheet_into}
use Rattle.claim_joint.specs.Own.{own_of, own_under}
use Rattle.calls.specs.Sizes.{documents_size, positions_size, postings_size, terms_size}
use Rattle.common.specs.Members.{every, some_of, kept}
use Rattle.rules.specs.Words.{mentions, within}
use Rattle.rules.specs.Rules.{phrase_at, chain_from, ordered, unordered_at, unordered}
use Rattle.rules.specs.Rules as rules
use Rattle.rules.specs.Different.{different}
use Rattle.calls.specs.Questions.{under, decode_names, check_names, check_question, two_checks, answer, answers, search, search_text}
use Rattle.calls.specs.Questions.{search_two}
use Rattle.calls.specs.Order.{stands_before, put_in, ranked}
use Rattle.calls.specs.Ranked.{ranked_answer, ranked_answers, search_ranked}
use Rattle.midi_read.specs.Files as midi
use Rattle.midi_bars.specs.Bars.{rising_from, bar_count, sounds_of, bars_of, given_of, lists_of}
use Rattle.midi_bars.specs.Bars as bars
use Rattle.midi_bars.specs.Loudness.{greatest, velocities_of}
use Rattle.midi_bars.specs.Imports.{import_file, import_all, import_into, roomy_all, roomy_beside}
use Rattle.length_lookup.specs.Lookup.{check_ids, check_ids_and_lengths, looked_up}
use Rattle.pad_map.specs.Bars.{lookup, insert, without}
use Rattle.pad_map.specs.Rules.{before, hit_fine, hits_fine, all_up_to, all_audible, hits_rise, all_below, check_hits}
use Rattle.pad_map.specs.Acts as pad
use Rattle.pad_words.specs.Words.{bar_words, stored, hits_of, held}
use Rattle.pad_words.specs.Words as pad_words
use Rattle.pad_words.specs.Whole.{bars_fine, whole}
use Rattle.pad_words.specs.Calls.{held_bars, pad_save, pad_erase, pad_read, pad_write}

unfoldable pub numbers : Unit {0}
unfolding uleb128 encoded chunks
numbers = tt

unfoldable pub checksum : Unit {0}
unfolding crc32_of number complement_first message bits divided plus
checksum = tt

unfoldable pub text : Unit {0}
unfolding utf8 characters char_length first_of starts sequences
text = tt

unfoldable pub checking : Unit {0}
unfolding text names ends_fit given small shaped check_lists check_given check_documents check_terms check_name check_postings
    check_posting check_positions position_checks length_of precedes
checking = tt

unfoldable pub writing : Unit {0}
unfolding checking write segment_bytes directory_bytes name_bytes lists_bytes metadata_bytes postings_bytes posting_bytes
    position_bytes numbers checksum
writing = tt

unfoldable pub flattening : Unit {0}
unfolding given names laid_flat
flattening = tt

unfoldable pub owning : Unit {0}
unfolding flattening same own_of own_under
owning = tt

unfoldable pub measuring : Unit {0}
unfolding flattening numbers documents_size terms_size postings_size positions_size
measuring = tt

unfoldable pub opening : Unit {0}
unfolding checksum text numbers open_segment sections ranges checksums section_checksum contents metadata read_documents read_document
    directory read_entries read_entry read_list_range part same precedes
opening = tt

unfoldable pub decoding : Unit {0}
unfolding checksum numbers decode all_postings read_postings read_posting read_head read_positions read_position read_value length_of
decoding = tt

unfoldable pub reading_back : Unit {0}
unfolding opening decoding decode_segment decode_all
reading_back = tt

unfoldable pub checking_once : Unit {0}
unfolding opening decoding decode_all whole_segment
checking_once = tt

unfoldable pub calling : Unit {0}
unfolding opening decoding well_named entry_of postings_of positions_of document_lengths document_len df term_list docs_with_term
    term_postings positions total_positions joined_positions
calling = tt

unfoldable pub asking : Unit {0}
unfolding opening decoding names ends_fit entry_of postings_of positions_of every some_of kept mentions within phrase_at rules.starts
    chain_from ordered unordered_at unordered under different decode_names answer answers search check_names check_question two_checks
    search_text search_two
asking = tt

unfoldable pub ranking : Unit {0}
unfolding asking stands_before put_in ranked ranked_answer ranked_answers search_ranked
ranking = tt

unfoldable pub from_records : Unit {0}
unfolding write_records
from_records = tt

unfoldable pub listing_lines : Unit {0}
unfolding opening listing listable refusal_line count_line document_lines document_line entry_lines entry_line name_column column digits
    octets value decoded_from decoded
listing_lines = tt

unfoldable pub sheet_lines : Unit {0}
unfolding listing_lines decoding decode_all positions_of some_of sheet_into bar_sheet sheet sound_lines sound_line heading marks
    right_justified
sheet_lines = tt

unfoldable pub heading_read : Unit {0}
unfolding same midi.header midi.heading midi.chunks import_file import_all import_into
heading_read = tt

unfoldable pub hearing : Unit {0}
unfolding heading_read midi.number_from midi.message midi.skipped midi.meta midi.by_status midi.read_event midi.hits_from midi.hits
hearing = tt

unfoldable pub importing : Unit {0}
unfolding hearing some_of kept rising_from bar_count sounds_of bars_of bars.positions_of given_of lists_of laid_flat roomy_all greatest
    velocities_of roomy_beside
importing = tt

unfoldable pub looking_up : Unit {0}
unfolding length_of check_ids check_ids_and_lengths looked_up
looking_up = tt

unfoldable pub mapping : Unit {0}
unfolding lookup insert without before all_up_to all_audible hits_rise all_below check_hits pad.save pad.read
mapping = tt

unfoldable pub recording : Unit {0}
unfolding mapping hit_fine hits_fine bars_fine whole hits_of pad_words.bars_of held bar_words stored held_bars pad_save pad_erase pad_read
recording = tt

unfoldable pub writing_out : Unit {0}
unfolding recording writing kept pad.steps_of pad.postings_of pad.terms_of pad.given_of laid_flat pad.write_out pad_write
writing_out = tt
