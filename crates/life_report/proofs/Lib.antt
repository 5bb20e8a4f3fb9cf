pub mod ListedReports
