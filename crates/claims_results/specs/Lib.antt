-- One result for each public function.
pub mod OneResult
