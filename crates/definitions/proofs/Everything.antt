-- All definitions opened at once, for a proof by computation: such a proof says `unfolding everything`.
use Rattle.definitions.specs.Outcome as outcome
use Rattle.definitions.specs.Name as name
use Rattle.definitions.specs.Sorting as sorting
use Rattle.definitions.specs.Prop as prop
use Rattle.definitions.specs.Code as code
use Rattle.definitions.specs.Sheet as sheet
use Rattle.definitions.specs.Tree as tree
use Rattle.definitions.specs.Admission as admission
use Rattle.definitions.specs.Term as term
use Rattle.definitions.specs.Export as export
use Rattle.definitions.specs.Display as display
use Rattle.definitions.specs.Text as text
use Rattle.definitions.specs.Comparison as comparison
use Rattle.definitions.specs.AlphaEquality as alpha_equality
use Rattle.definitions.specs.IdentifierContext as identifier_context
use Rattle.definitions.specs.Answers as answers
use Rattle.definitions.specs.CallerNames as caller_names
use Rattle.definitions.specs.Exercises as exercises
use Rattle.definitions.specs.NameIndex as name_index
use Rattle.definitions.specs.TermText as term_text
use Rattle.definitions.specs.TermReader as term_reader
use Rattle.definitions.specs.CheckingRules as checking_rules
use Rattle.definitions.specs.Sound as sound
use Rattle.definitions.specs.Labels as labels
use Rattle.definitions.specs.Assemble as assemble
use Rattle.definitions.specs.Encode as encode
use Rattle.definitions.specs.Restate as restate
use Rattle.definitions.specs.Drawings as drawings
use Rattle.definitions.specs.TermDrawings as term_drawings

unfoldable pub everything : Unit {0}
unfolding outcome.refuse outcome.◌>>=◌ outcome.map_outcome outcome.refuse_if outcome.first_of outcome.lowest outcome.refuse_at outcome.refuse_lowest name.byte_class name.may_begin name.may_follow name.all_may_follow name.is_name name.eq_name name.compare_number name.or_else name.compare_name name.is_equal name.is_greater sorting.insert sorting.sort prop.parameter_name prop.nesting prop.get_atoms prop.get_datatypes prop.is_true prop.is_false prop.as_binary prop.as_atom prop.as_quantified prop.connective_byte prop.quantifier_byte prop.eq_connective prop.eq_quantifier prop.rename_parameter prop.rename_prop code.yield code.fail code.followed_by code.◌>>=◌ code.byte code.number code.whole code.parameter_limit code.name_number code.uninstantiated code.instantiated code.parameter code.parameters code.atom code.binary code.quantified code.by_head code.proposition code.decode code.u16 code.encode_parameter code.encode_parameters code.encode code.CodableParameter code.CodableParameters code.Codable sheet.text_limit sheet.name_limit sheet.code_limit sheet.proposition_limit sheet.step_limit sheet.name_length_limit sheet.proposition_nesting_limit sheet.tree_nesting_limit sheet.column_limit sheet.header_size sheet.pair_size sheet.step_size sheet.number_at sheet.pair_offset sheet.pair_length sheet.pair_end sheet.last_end sheet.marked sheet.rule_byte sheet.premiss_count sheet.step_number sheet.column sheet.text_length sheet.names sheet.code_length sheet.propositions sheet.steps sheet.goal sheet.header_out_of_range sheet.name_pairs_start sheet.proposition_pairs_start sheet.steps_start sheet.text_start sheet.code_start sheet.sheet_length sheet.name_pairs sheet.proposition_pairs sheet.step_records sheet.text_bytes sheet.code_bytes sheet.name_of tree.rules tree.identifier_count tree.height tree.heights tree.count tree.rename_identifier tree.rename_conclusion tree.rename_step tree.rename_tree tree.rename_premisses tree.last_trees tree.rule_in tree.prop_in tree.identifier_in tree.conclusion_in tree.step_in tree.step_over tree.trees_before tree.tree_in tree.prop_of tree.rule_of tree.conclusion_of tree.tree_of tree.root_of admission.misplaced admission.bad_name_pair admission.bad_name admission.bad_proposition_pair admission.is_none admission.bad_code admission.deep_proposition admission.no_name admission.not_zero admission.bad_identifier admission.bad_prop_is_true admission.bad_type_judgement admission.bad_conclusion admission.bad_column admission.identifiers admission.bad_step admission.too_few_trees admission.trees_left admission.deep_tree admission.header_checks admission.admitted term.of_label term.of_labels term.is_labelled term.annotation_count term.label_atoms term.proposition_datatypes term.label_datatypes term.atom_list term.datatype_list term.rename_label term.rename_parameter_label term.rename_term export.admits export.row_of export.row export.admits_count export.places export.ending export.ascription_label export.implication_label export.left_label export.universal_label export.datatype_label export.rule_term export.premiss_term export.step_term export.inferring_term export.placed_term export.export export.export_all display.wrap display.connective_precedence display.is_negation display.precedence display.wraps_left display.wraps_right display.connective_text display.quantifier_text display.following_parameters display.display_parameters display.display_prop display.display_label display.display_parameter_label display.form display.brackets_of display.is_strict display.brackets display.bracketed display.function_text display.wraps display.display_term text.last_digit text.digits text.decimal text.occurs text.firsts_after text.firsts text.eq_atom_use text.compare_atom_use text.arranged text.atom_declaration text.datatype_declaration text.following_lines text.join_lines text.atom_declarations text.datatype_declarations text.declarations text.first_list text.second_list text.heading text.text comparison.no comparison.and_also comparison.bound_alike comparison.alpha_eq_parameter comparison.alpha_eq_parameters comparison.alpha_eq_atom comparison.alpha_eq_sides comparison.alpha_eq_applied comparison.alpha_eq_scope comparison.alpha_eq_under comparison.alpha_eq comparison.eq_identifier comparison.conclusion_alpha_eq alpha_equality.distance alpha_equality.object alpha_equality.nameless alpha_equality.AlphaEqual identifier_context.len identifier_context.insert identifier_context.latest identifier_context.without_latest identifier_context.has_name identifier_context.has_identifier identifier_context.get_by_name identifier_context.get identifier_context.remove_by_name identifier_context.remove identifier_context.same_name identifier_context.get_all_visible answers.atom_numbers answers.is_in_room answers.board_room answers.names_step answers.column_of answers.located answers.column_words answers.refusal_line answers.printed answers.version_of answers.sheet_term answers.named_term answers.goal_prop answers.sheet_text answers.text_answer answers.atoms_answer answers.datatypes_answer answers.label_count answers.named_conclusion answers.comparison answers.board_output exercises.exercise_name_limit exercises.connective_limit exercises.atoms_from exercises.joined exercises.of_root exercises.of_roots exercises.leaves exercises.sizes exercises.of_size exercises.exercises caller_names.newline caller_names.in_front caller_names.pieces caller_names.names_in caller_names.well_formed caller_names.all_well_formed exercises.repeated exercises.bad_names exercises.exercise_answer name_index.slot_count name_index.free name_index.wrap name_index.running name_index.start_slot name_index.slot_at name_index.free_from name_index.plain_search name_index.enter name_index.index name_index.find_from name_index.find name_index.index_of name_index.index_answer name_index.find_answer checking_rules.lookup checking_rules.LabelIs sound.Fresh sound.documented sound.context sound.shadowing sound.is_propositional sound.all_instantiated sound.is_quantifier_free sound.is_proposition labels.tally_of labels.◌plus◌ labels.total labels.tally labels.placed_tally labels.inferring_tally labels.inferring_tallies assemble.header_bytes assemble.assemble assemble.parts_of encode.rule_number encode.encode_identifier encode.no_identifier encode.encode_rule encode.encode_prop_is_true encode.concat encode.encode_pairs encode.encode_sheet restate.new_record restate.with_step restate.no_step_left restate.restated_sheet restate.given_conclusion restate.bad_given restate.restated restate.restate_answer drawings.ask drawings.drawing drawings.prints drawings.lists drawings.counts drawings.says drawings.letter drawings.the drawings.step drawings.step_naming drawings.step_naming_two drawings.drawn_in drawings.sheet drawings.smallest drawings.second drawings.root_sorry drawings.fst_of_sorry drawings.fst_of_alpha_equivalent drawings.applied drawings.snd_of_pair drawings.case_applied drawings.alpha_equivalent_alone drawings.label_of drawings.sorries drawings.of_object drawings.two_labels drawings.drawings drawings.temptations drawings.to_case_then_to drawings.to_case_of_applied drawings.ascribed_case drawings.ascribed_lets drawings.ascribed_parts drawings.strict_drawings drawings.second_handout drawings.by_alphabet drawings.handouts drawings.columns drawings.with_gap drawings.sorry_in_column6 drawings.proposition drawings.judgement drawings.judgement_bytes drawings.judged drawings.restatements drawings.sets drawings.named drawings.exercise_drawings drawings.naming drawings.seven_names drawings.six_slots drawings.finds drawings.finds_none drawings.indexes drawings.asked drawings.expected term_text.keywords term_text.is_admitted term_text.parameter_named term_text.ConventionalParameters term_text.ConventionalProp term_text.OfParameterLabel term_text.Each term_text.lone_label term_text.label_for term_text.ConventionalLabel term_text.term_text_limit term_text.node_limit term_text.term_nesting_limit term_text.nodes term_text.term_nesting term_text.prop_names term_text.label_names term_text.parameter_label_names term_text.term_names term_text.code_bytes term_text.LimitedLabel term_text.all_admitted term_text.without_id term_text.prop_without_ids term_text.label_without_ids term_text.parameter_label_without_ids term_text.without_ids term_text.BoundAsNamed term_text.RestorableParameters term_text.RestorableAtom term_text.RestorableProp term_text.RestorableLabel term_reader.longer term_reader.word term_reader.named term_reader.name term_reader.expect term_reader.if_read term_reader.or_read term_reader.means term_reader.standing term_reader.same term_reader.due term_reader.connective term_reader.right_least term_reader.strong_enough term_reader.goes_on term_reader.sign term_reader.later_parameters term_reader.parameters_of term_reader.signed term_reader.atom_named term_reader.unit term_reader.joined term_reader.read_prop term_reader.start_of term_reader.is_open term_reader.is_sorry term_reader.argument_begins term_reader.argument_follows term_reader.label term_reader.parameter_label term_reader.ascribed term_reader.closed_or_paired term_reader.opened term_reader.closed term_reader.inner term_reader.function term_reader.case_of term_reader.let_in term_reader.call term_reader.started term_reader.head term_reader.arguments term_reader.read_term term_reader.prop_levels term_reader.term_levels term_reader.is_limited_label term_reader.is_limited_parameter_label term_reader.has_limited_labels term_reader.is_limited term_reader.settled term_reader.read_answer term_drawings.reads_as term_drawings.is_refused term_drawings.term term_drawings.letter term_drawings.sorry_of term_drawings.case_with term_drawings.term_drawings term_drawings.read term_drawings.due
everything = tt
