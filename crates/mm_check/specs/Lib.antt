pub mod Verdict
pub mod Form
pub mod Checked
